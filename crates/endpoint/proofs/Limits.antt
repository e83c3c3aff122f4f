-- What the getters of an endpoint show, and the functions that judge whether calls can lead to its limits: each return with the facts as they come.
-- Last, that every connection that calls can lead to passes.
-- Assumes nothing.
use mathlib.Core.Path.{◌≡◌, refl, sym, ◌∙◌, ap, subst}
use mathlib.Core.Bool.{Bool, true, false, cond, not, ◌&&◌}
use mathlib.Core.List.{List, []}
use Rattle.std.specs.Prelude.{Option, None, Some}
use Prim.Native.Nat.{ℕ, suc, ◌-◌, ◌≤◌, ◌<◌}
use native.Mathlib.Omega.{arith}
use lib.Dec.{leb, eqb}
use borrow.Author.Tests.{leb-true, le-leb, lt-leb, eq-eqb, ne_eqb}
use Rattle.frame_encoder.specs.Frames.{Settings}
use Rattle.connection_state.specs.States.{State, is_one_of, before_open, after_open}
use Rattle.connection_model.specs.Connection.{Connection}
use Rattle.connection_model.specs.Sound.{Reached}
use Rattle.channels.specs.Numbers.{taken_below}
use Rattle.channels.specs.Places.{covers}
use Rattle.channels.specs.Ties.{handle_of}
use Rattle.channels.specs.Channels.{agreed_says, counts_ok, Finds}
use Rattle.channels.specs.Lists.{FindsTied}
use Rattle.channels.specs.declared.OutgoingChannels.{OutgoingChannels}
use Rattle.channels.proofs.Limits.{both, closed_limits}
use Rattle.channels.proofs.Steps.{counted}
use Rattle.local_open.specs.declared.LocalOpen.{LocalOpen}
use Rattle.local_open.specs.Settings.{open_says}
use Rattle.endpoint.specs.declared.Endpoint.{Endpoint}
use Rattle.endpoint.specs.Answers.{whole, places_of, taken_of, ties_of}
use Rattle.endpoint.specs.Promises.{Sound, Counted, limits_ok, resumed_as}

-- ---- is_covered, handle_at, tied_handle, taken_count

module _ (e : Endpoint) where
  pub covered_told : (t : List ℕ) (highest : ℕ) → highest ≡ e.local_open.channel_max → (r : Bool) → r ≡ covers (suc highest) t → r ≡ covers (places_of e) t
  covered_told t highest m r q = q ∙ ap (λ n. covers (suc n) t) m

  pub handle_found : (t : List ℕ) (channel : ℕ) (r : Option ℕ) → Finds e.outgoing t channel r → (id : List ℕ) → Sound (whole e t id) → r ≡ taken_of (whole e t id) channel
  handle_found t channel r f id i = f.finds i.numbers

  pub tie_found :
      (t : List ℕ) (channel : ℕ) (r : Option ℕ) (highest : ℕ) → highest ≡ e.local_open.channel_max → FindsTied (suc highest) t channel r
      → (id : List ℕ) → Sound (whole e t id) → r ≡ handle_of (ties_of (whole e t id) channel)
  tie_found t channel r highest m f id i = subst (λ n. FindsTied (suc n) t channel r) m f i.listed.covered

  pub sessions_counted : (r : ℕ) → r ≡ e.outgoing.used - e.outgoing.freed → (t id : List ℕ) → Sound (whole e t id) → r ≡ taken_below (places_of e) (taken_of (whole e t id))
  sessions_counted r f t id i = f ∙ counted e.outgoing t i.numbers (places_of e) i.most

-- ---- is_reached

-- whether the limits and the agreed channel-max are such as calls lead to in the state
abbrev pub fitting : Endpoint → State → List ℕ → Bool
fitting e x id = limits_ok (open_says id e.local_open) x e.reading_limit e.writing_limit (agreed_says e.outgoing)

module _ (e : Endpoint) (x : State) (o : Option ℕ) (agrees : o ≡ agreed_says e.outgoing) where
  module _ (q : o ≡ None) (b : Bool) (t : b ≡ is_one_of after_open x) where
    without : (id : List ℕ) → fitting e x id ≡ not b && (eqb e.reading_limit 512 && eqb e.writing_limit 512)
    unfolding limits_ok
    without id = rw (← agrees, q, t)

    pub reached_after : b ≡ true → (id : List ℕ) → false ≡ fitting e x id
    reached_after y id = sym (without id ∙ rw y)

    module _ (n : b ≡ false) where
      pub reached_reading : (e.reading_limit ≡ 512 → ⊥) → (id : List ℕ) → false ≡ fitting e x id
      reached_reading d id = sym (without id ∙ rw (n, ne_eqb e.reading_limit 512 d))

      pub reached_first : e.reading_limit ≡ 512 → (id : List ℕ) → eqb e.writing_limit 512 ≡ fitting e x id
      reached_first d id = sym (without id ∙ rw (n, eq-eqb e.reading_limit 512 d))

  module _ (m : ℕ) (q : o ≡ Some m) (b : Bool) (t : b ≡ is_one_of before_open x) where
    agreeing :
        (id : List ℕ)
        → fitting e x id ≡ not b && (leb m e.local_open.channel_max && (eqb e.reading_limit e.local_open.max_frame_size && (leb 512 e.writing_limit && leb e.writing_limit 16384)))
    unfolding limits_ok
    agreeing id = rw (← agrees, q, t)

    pub reached_before : b ≡ true → (id : List ℕ) → false ≡ fitting e x id
    reached_before y id = sym (agreeing id ∙ rw y)

    module _ (n : b ≡ false) (highest : ℕ) (top : highest ≡ e.local_open.channel_max) where
      pub reached_over : highest < m → (id : List ℕ) → false ≡ fitting e x id
      reached_over l id = sym (agreeing id ∙ rw (n, lt-leb m e.local_open.channel_max (omega arith)))

      module _ (l : m ≤ highest) (size : ℕ) (own : size ≡ e.local_open.max_frame_size) where
        pub reached_other : (e.reading_limit ≡ size → ⊥) → (id : List ℕ) → false ≡ fitting e x id
        reached_other d id = sym (agreeing id ∙ rw (n, le-leb m e.local_open.channel_max (omega arith), ne_eqb e.reading_limit e.local_open.max_frame_size (λ z. d (z ∙ sym own))))

        module _ (d : e.reading_limit ≡ size) where
          own_limit : (id : List ℕ) → fitting e x id ≡ leb 512 e.writing_limit && leb e.writing_limit 16384
          own_limit id = agreeing id ∙ rw (n, le-leb m e.local_open.channel_max (omega arith), eq-eqb e.reading_limit e.local_open.max_frame_size (d ∙ own))

          pub reached_low : e.writing_limit < 512 → (id : List ℕ) → false ≡ fitting e x id
          reached_low w id = sym (own_limit id ∙ rw (lt-leb 512 e.writing_limit w))

          pub reached_high : 512 ≤ e.writing_limit → (id : List ℕ) → leb e.writing_limit 16384 ≡ fitting e x id
          reached_high w id = sym (own_limit id ∙ rw (le-leb 512 e.writing_limit w))

-- ---- resumed

module _ (e : Endpoint) (x : State) (b : Bool) (t : (id : List ℕ) → b ≡ fitting e x id) where
  pub resumed_is : cond b (Some e) None ≡ resumed_as x e
  resumed_is = rw (← t [])

-- ---- what the test means

-- the container-id is no part of the test
pub limits_any : (id other : List ℕ) (local : LocalOpen) (x : State) (r w : ℕ) (a : Option ℕ) → limits_ok (open_says id local) x r w a ≡ limits_ok (open_says other local) x r w a
unfolding limits_ok
limits_any id other local x r w None = refl
limits_any id other local x r w (Some m) = refl

limits_most : (S : Settings) (x : State) (r w m : ℕ) → limits_ok S x r w (Some m) ≡ true → m ≤ S.channel_max
unfolding limits_ok
limits_most S x r w m f =
    let rest = eqb r S.max_frame_size && (leb 512 w && leb w 16384) in
    let p = both (not (is_one_of before_open x)) (leb m S.channel_max && rest) f in
    leb-true m S.channel_max (both (leb m S.channel_max) rest p.1).0

agreed_as : (o : OutgoingChannels) → o.opened ≡ true → agreed_says o ≡ Some o.highest
unfolding agreed_says
agreed_as o e = rw e

pub limits_counted : (e : Endpoint) (id : List ℕ) (x : State) → counts_ok e.outgoing ≡ true → fitting e x id ≡ true → Counted e
limits_counted e id x c f = (c, go e.outgoing.opened refl)
  where
    go : (b : Bool) → e.outgoing.opened ≡ b → suc e.outgoing.highest ≤ places_of e
    go true o =
        let l =
        limits_most (open_says id e.local_open) x e.reading_limit e.writing_limit e.outgoing.highest
        (subst (λ a. limits_ok (open_says id e.local_open) x e.reading_limit e.writing_limit a ≡ true) (agreed_as e.outgoing o) f) in
        omega arith
    go false o = omega (arith, (closed_limits e.outgoing o c).no_highest)

-- ---- the connection as it is defined

module _ (S : Settings) (c : Connection) (r : Reached S c) where
  reached_as : (a : Option ℕ) → c.agreed_max ≡ a → limits_ok S c.state c.reading_limit c.writing_limit a ≡ true
  unfolding limits_ok
  reached_as None e =
      let u = r.unopened e in
      let p : c.reading_limit ≡ 512 = ap (λ d. d.reading_limit) u.at_first in
      let q : c.writing_limit ≡ 512 = ap (λ d. d.writing_limit) u.at_first in
      rw (u.stands, eq-eqb c.reading_limit 512 p, eq-eqb c.writing_limit 512 q)
  reached_as (Some m) e =
      let g = r.agreed m e in
      rw (g.stands, le-leb m S.channel_max g.most, eq-eqb c.reading_limit S.max_frame_size g.reading_own, le-leb 512 c.writing_limit g.writing_low, le-leb c.writing_limit 16384 g.writing_high)

  pub reached_limits : limits_ok S c.state c.reading_limit c.writing_limit c.agreed_max ≡ true
  reached_limits = reached_as c.agreed_max refl
