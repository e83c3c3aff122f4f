-- What a new endpoint is, and what becomes of one with the peer's Open, with the facts as they come.
-- Assumes nothing.
use mathlib.Core.Path.{◌≡◌, refl, sym, ◌∙◌, ap, subst}
use mathlib.Core.Bool.{Bool, true, false}
use mathlib.Core.List.{List}
use Rattle.std.specs.Prelude.{None, Some}
use Prim.Native.Nat.{ℕ, suc, min, ◌≤◌}
use native.Mathlib.Omega.{arith}
use lib.ListN.{length}
use Rattle.connection_state.specs.States.{State, Start}
use Rattle.connection_model.specs.Connection.{agree, apply, clamped, fresh}
use Rattle.channels.specs.Places.{Covers, past}
use Rattle.channels.specs.Channels.{agreed_says, unopened, opened_to}
use Rattle.channels.specs.Lists.{Clears}
use Rattle.channels.specs.declared.OutgoingChannels.{OutgoingChannels}
use Rattle.channels.proofs.Limits.{apart}
use Rattle.channels.proofs.Kept.{covers_fewer}
use Rattle.channels.proofs.Sounds.{nothing_taken}
use Rattle.channels.proofs.Opening as C
use Rattle.local_open.specs.declared.LocalOpen.{LocalOpen}
use Rattle.endpoint.specs.declared.Role.{Role}
use Rattle.endpoint.specs.declared.Endpoint.{Endpoint}
use Rattle.endpoint.specs.Answers.{Whole, whole, settings_of, places_of, view_as}
use Rattle.endpoint.specs.Promises.{Sound, Counted, Same, endpoint_of, new_endpoint, agreed_with}
use Rattle.endpoint.proofs.Basics.{agreed_of, alike}

-- ---- new

pub made : (role : Role) (local : LocalOpen) (o : OutgoingChannels) → o ≡ unopened → endpoint_of role local 512 512 o ≡ new_endpoint role local
made role local o f = ap (endpoint_of role local 512 512) f

pub cleared : (local : LocalOpen) (t : List ℕ) (h : ℕ) (t' : List ℕ) → h ≡ local.channel_max → Clears (suc h) t t' → Clears (suc local.channel_max) t t'
cleared local t h t' e c = subst (λ n. Clears (suc n) t t') e c

-- in tables that have a place for each channel
pub record Begins (role : Role) (local : LocalOpen) (t : List ℕ) (e : Endpoint) (t' : List ℕ) : Type 0 where
  pub begins_role : e.role ≡ role
  pub begins_open : e.local_open ≡ local
  pub begins_counted : Counted e
  pub begins_fresh : Covers (places_of e) t → (id : List ℕ) → view_as Start (whole e t' id) ≡ fresh
  pub begins_sound : Covers (places_of e) t → (id : List ℕ) → Sound (whole e t' id)
  pub begins_long : length t' ≡ length t
  pub begins_past : past (places_of e) t' ≡ past (places_of e) t

pub begins : (role : Role) (local : LocalOpen) (t t' : List ℕ) (e : Endpoint) → (e ≡ new_endpoint role local) × Clears (suc local.channel_max) t t' → Begins role local t e t'
begins role local t t' e p = subst (λ x. Begins role local t x t') (sym p.0) (record {
  begins_role = refl;
  begins_open = refl;
  begins_counted = (f.within, omega (arith, f.lowest));
  begins_fresh = λ i id. alike Start refl refl f.agreed (f.hand_out_is t') (f.taken t') (c.clears i).says;
  begins_sound = λ i id. record {
    listed = (c.clears i).listed;
    most = omega (arith, f.lowest);
    numbers = f.sound t' (omega (arith, c.numbers.long));
  };
  begins_long = c.numbers.long;
  begins_past = c.numbers.rest (suc local.channel_max) (omega arith);
})
  where
    f : C.Fresh unopened
    f = C.fresh

    c : Clears (suc local.channel_max) t t'
    c = p.1

-- ---- open

pub agreed :
    (e : Endpoint) (size most local r w h : ℕ) (o : OutgoingChannels) → local ≡ e.local_open.channel_max → h ≡ min local most → o ≡ opened_to h e.outgoing
    → r ≡ e.local_open.max_frame_size → w ≡ clamped size → endpoint_of e.role e.local_open r w o ≡ agreed_with size most e
agreed e size most local r w h o l n c p q =
    let a : h ≡ min e.local_open.channel_max most = n ∙ ap (λ j. min j most) l in
    let d : o ≡ opened_to (min e.local_open.channel_max most) e.outgoing = c ∙ ap (λ j. opened_to j e.outgoing) a in
    (λ i. endpoint_of e.role e.local_open (p i) (q i) (d i))

-- nothing was agreed, so the peer's Open has not come
not_come : (o : OutgoingChannels) → agreed_says o ≡ None → o.opened ≡ false
unfolding agreed_says
not_come o e = go o.opened refl
  where
    go : (b : Bool) → o.opened ≡ b → o.opened ≡ false
    go false q = q
    go true q = let z : agreed_says o ≡ Some o.highest = rw q in apart (cc)

min_low : (m n : ℕ) → min m n ≤ m
min_low m n = omega arith

-- the peer's max-frame-size and channel-max, before which nothing is agreed
pub record Agrees (size most : ℕ) (before later : Whole) : Type 0 where
  pub agrees :
      Sound before → agreed_of before ≡ None
      → (x y : State) → view_as y later ≡ apply (settings_of before) (agree y (min (settings_of before).channel_max most) (clamped size)) (view_as x before)
  pub agrees_sound : Sound before → agreed_of before ≡ None → Sound later
  pub agrees_same : Same before later

module _ (e : Endpoint) (size most : ℕ) where
  abbrev h : ℕ
  h = min e.local_open.channel_max most

  abbrev o : OutgoingChannels
  o = opened_to h e.outgoing

  c : C.Opens e.outgoing h o
  c = C.opens e.outgoing h

  agreed_low : suc h ≤ places_of e
  agreed_low = omega (arith, min_low e.local_open.channel_max most)

  agreed_counted : (b : Bool) → e.outgoing.opened ≡ b → suc e.outgoing.highest ≤ places_of e → suc o.highest ≤ places_of e
  agreed_counted true q m = omega (arith, m, ap (λ (x : OutgoingChannels). x.highest) (c.again q))
  agreed_counted false q m = omega (arith, c.highest_is q, agreed_low)

  pub agrees_with : (t id : List ℕ) → Agrees size most (whole e t id) (whole (agreed_with size most e) t id)
  agrees_with t id = record {
    agrees = λ i a x y.
        let d = not_come e.outgoing a in
        alike y refl refl (c.agreed d) (c.hand_out_is d t) (c.taken d t ∙ sym (nothing_taken e.outgoing t i.numbers d)) refl;
    agrees_sound = λ i a.
        let d = not_come e.outgoing a in
        record {
          listed = i.listed;
          most = agreed_counted false d i.most;
          numbers = c.sound d t (covers_fewer (suc h) (places_of e) t agreed_low i.listed.covered);
        };
    agrees_same = record {
      same_role = refl;
      same_settings = refl;
      same_long = refl;
      same_past = λ z. refl;
      still_counted = λ z. (c.within z.0, agreed_counted e.outgoing.opened refl z.1);
    };
  }
