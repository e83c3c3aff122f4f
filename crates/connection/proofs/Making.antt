-- A new connection, one that was kept, and what is asked of one without changing it.
-- Assumes nothing.
use mathlib.Core.Path.{◌≡◌, refl, sym, ◌∙◌, ap, subst}
use mathlib.Core.Bool.{Bool, true, false, ◌&&◌}
use mathlib.Core.List.{List}
use Rattle.std.specs.Prelude.{Option, Result, Ok, Err}
use Prim.Native.Nat.{ℕ, suc}
use Rattle.octets.specs.Verdict.{Verdict, refuse, accept}
use Rattle.octets.specs.Refusal.{number_of, judged}
use Rattle.octets.specs.declared.Refusal.{Refusal}
use Rattle.octets.specs.declared.Refusal.TheVariants.{OutOfBounds}
use Rattle.octets.proofs.Laws.{require_on, require_off}
use Rattle.frame_encoder.specs.Frames.{Settings}
use Rattle.connection_model.specs.Sound.{Reached}
use Rattle.connection_model.proofs.Invariant.{reached_fresh, shares}
use Rattle.connection_state.specs.declared.ConnectionState.TheVariants.{Start}
use Rattle.channels.specs.Places.{Covers, covers, past}
use Rattle.channels.specs.Numbers.{taken_below}
use Rattle.channels.specs.Lists.{Listed, Clears}
use Rattle.channels.proofs.Kept.{covers_true, covers_fewer}
use Rattle.local_open.specs.declared.LocalOpen.{LocalOpen}
use Rattle.local_open.specs.Settings.{allowed, checked, open_says, new_says}
use Rattle.local_open.proofs.Laws.{taken_allowed, taken_says_is, refused_beyond, refused_eight}
use Rattle.endpoint.specs.declared.Endpoint.{Endpoint}
use Rattle.endpoint.specs.declared.Role as R
use Rattle.endpoint.specs.Answers.{places_of, role_says}
use Rattle.endpoint.specs.Promises.{Counted, new_endpoint}
use Rattle.endpoint.specs.Promises as E
use Rattle.endpoint.proofs.Opening.{Begins, begins}
use Rattle.connection.specs.declared.Connection.{Connection}
use Rattle.connection.specs.View.{Whole, whole, endpoint_in, settings_of, view_of, Sound}
use Rattle.connection.specs.Promises.{Makes, Begun, Looks, Counts, is_covered}
use Rattle.connection.proofs.Calls.{apart, unsound}

-- ---- a new connection

and_false : (a b : Bool) → a ≡ false → a && b ≡ false
and_false a b e = rw e

and_true : (a b : Bool) → a ≡ true → a && b ≡ b
and_true a b e = rw e

-- refused, whatever for: the tables are as they were
not_made : (role : R.Role) (S : Settings) (t : List ℕ) (k : Refusal) → k ≡ OutOfBounds → allowed S && covers (suc S.channel_max) t ≡ false → Makes (role_says role) S t (Err k) t
not_made role S t k e f = record {
  checks = ap (λ u. refuse (number_of u)) e ∙ sym (require_off 8 _ _ f);
  made = λ c q. apart (cc);
  refused = λ j q. refl;
  made_long = refl;
  made_past = refl;
}

module _ (role : R.Role) (S : Settings) (n : Result LocalOpen Refusal) (says : new_says S.container_id n ≡ checked S) (t : List ℕ) where
  -- its settings are beyond their limits
  pub makes_beyond : (k : Refusal) → n ≡ Err k → Makes (role_says role) S t (Err k) t
  makes_beyond k q = not_made role S t k (refused_eight S.container_id S n says k q) (and_false _ _ (refused_beyond S.container_id S n says k q))

  module _ (o : LocalOpen) (q : n ≡ Ok o) (b : Bool) (c : b ≡ covers (suc S.channel_max) t) where
    fine : allowed S ≡ true
    fine = taken_allowed S.container_id S n says o q

    -- its tables are too short
    pub makes_uncovered : b ≡ false → Makes (role_says role) S t (Err OutOfBounds) t
    makes_uncovered f = not_made role S t OutOfBounds refl (and_true _ _ fine ∙ sym c ∙ f)

    module _ (e : Endpoint) (t' : List ℕ) (new : (e ≡ new_endpoint role o) × Clears (suc o.channel_max) t t') (y : b ≡ true) where
      g : Begins role o t e t'
      g = begins role o t t' e new

      own : open_says S.container_id e.local_open ≡ S
      own = ap (open_says S.container_id) g.begins_open ∙ taken_says_is S.container_id S n says o q

      most : places_of e ≡ suc S.channel_max
      most = ap (λ T. suc T.channel_max) own

      covered : Covers (places_of e) t
      covered = subst (λ m. Covers m t) (sym most) (covers_true (suc S.channel_max) t (sym c ∙ y))

      abbrev it : Connection
      it = record { local_state = Start; endpoint = e }

      begun : Begun (role_says role) S (whole it t' S.container_id)
      begun = record {
        begun_role = ap role_says g.begins_role;
        begun_settings = own;
        begun_fresh = g.begins_fresh covered S.container_id;
        begun_sound = record {
          fine = ap allowed own ∙ fine;
          held = g.begins_sound covered S.container_id;
          reached = subst (Reached (settings_of (whole it t' S.container_id))) (sym (g.begins_fresh covered S.container_id)) (reached_fresh (settings_of (whole it t' S.container_id)));
        };
        begun_counted = g.begins_counted;
      }

      pub makes : Makes (role_says role) S t (Ok it) t'
      makes = record {
        checks = sym (require_on 8 _ _ (and_true _ _ fine ∙ sym c ∙ y));
        made = λ d p. subst (λ u. Begun (role_says role) S (whole u t' S.container_id)) (let z : it ≡ d = cc in z) begun;
        refused = λ k p. apart (cc);
        made_long = g.begins_long;
        made_past = subst (λ m. past m t' ≡ past m t) most g.begins_past;
      }

-- ---- what makes a connection sound: settings within their limits, lists that agree with the ties, counts within their limits, and what holds of every connection

pub counted_sound : (w : Whole) → allowed (settings_of w) ≡ true → Listed (places_of w.connection.endpoint) w.tables → Counted w.connection.endpoint → Reached (settings_of w) (view_of w) → Sound w
counted_sound w a l k r =
    let e = w.connection.endpoint in
    record {
      fine = a;
      held = record {
        listed = l;
        most = k.1;
        numbers = record { within = k.0; covered = covers_fewer (suc e.outgoing.highest) (places_of e) w.tables k.1 l.covered; shared = shares r };
      };
      reached = r;
    }

-- ---- what is looked up

module _ (w : Whole) (found : Option ℕ) (b : Bool) (c : b ≡ is_covered w) where
  pub looks_uncovered : b ≡ false → Looks w found (refuse 8)
  looks_uncovered f = record { looks = unsound w (sym c ∙ f); looks_not = λ n. refl }

  pub looks_found : b ≡ true → (h : Option ℕ) → (E.Sound (endpoint_in w) → h ≡ found) → Looks w found (accept h)
  looks_found y h f = record {
    looks = λ z. ap accept (f z.held);
    looks_not = λ n. (let z : true ≡ false = sym y ∙ c ∙ n in apart (cc));
  }

pub counts_taken : (w : Whole) (n : ℕ) → (E.Sound (endpoint_in w) → n ≡ taken_below (suc (settings_of w).channel_max) (view_of w).taken) → Counts w n
counts_taken w n e = record { counts = λ z. e z.held }
