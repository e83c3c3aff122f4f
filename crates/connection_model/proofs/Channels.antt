-- Channel numbers: the taken ones and the hand-out list together are 0 to the limit, each once; the list is what allocating gives in turn until it is refused;
-- freed numbers come first, latest first, then those never used, ascending; a freed number takes along the ties that were made through it, and no others. The limit is a parameter.
-- Assumes nothing.
use mathlib.Core.Path.{◌≡◌, refl, ◌∙◌, ap, subst}
use mathlib.Core.Bool.{not}
use mathlib.Core.List.{List, [], ◌∷◌, ◌++◌}
use Rattle.std.specs.Prelude.{Option, None, Some}
use Prim.Native.Nat.{ℕ, zero, suc, ◌-◌, ◌≤◌}
use native.Mathlib.Omega.{arith}
use lib.Dec.{T}
use lib.ListN.{length}
use Rattle.octets.specs.Verdict.{Verdict, refuse, accept}
use Rattle.frame_encoder.specs.Frames.{Settings}
use Rattle.connection_state.specs.States.{is_one_of, stopped}
use Rattle.channels.specs.Numbers.{up_from, freed_first}
use Rattle.channels.specs.Ties.{dropped}
use Rattle.connection_model.specs.Connection.{Role, Connection, fresh, Call, allocate, deallocate, Answer, channel, Effect, stay, go, agree, take, give, tie, take_and_tie, Outcome, apply, given, released, decide, Seen, answered, after, next, run, seen_in}
use Rattle.connection_model.proofs.Rules.{Holds, refused, holds, require_passed, Legit, Lawful, lawful, lends_any}

-- ---- allocating until it is refused

abbrev pub answers_of : List Seen → List (Verdict Answer)
answers_of [] = []
answers_of (s ∷ ss) = s.answer ∷ answers_of ss

abbrev pub allocate_all : List ℕ → List Call
allocate_all [] = []
allocate_all (h ∷ hs) = allocate h ∷ allocate_all hs

abbrev pub channels_given : List ℕ → List (Verdict Answer)
channels_given [] = []
channels_given (ch ∷ l) = accept (channel ch) ∷ channels_given l

module _ (role : Role) (S : Settings) where
  decide_allocate : (c : Connection) (h : ℕ) → T (not (is_one_of stopped c.state)) → (l : Option (List ℕ)) → c.hand_out ≡ l → decide role S c (allocate h) ≡ given h l
  decide_allocate c h t l e = require_passed 22 (not (is_one_of stopped c.state)) (λ _. given h c.hand_out) t ∙ ap (given h) e

  -- as many handles as the hand-out list has numbers get these, in its order; the next handle is refused with 23
  pub allocating :
      (l hs : List ℕ) (h : ℕ) (c : Connection) → T (not (is_one_of stopped c.state)) → c.hand_out ≡ Some l → length hs ≡ length l
      → answers_of (seen_in role S c (allocate_all hs ++ (allocate h ∷ []))) ≡ channels_given l ++ (refuse 23 ∷ [])
  allocating [] [] h c t e n = ap (λ v. answered v ∷ []) (decide_allocate c h t (Some []) e)
  allocating [] (k ∷ hs) h c t e n = let z : ⊥ = omega arith in absurd z
  allocating (ch ∷ l) [] h c t e n = let z : ⊥ = omega arith in absurd z
  allocating (ch ∷ l) (k ∷ hs) h c t e n =
      ap (λ v. answered v ∷ answers_of (seen_in role S (after S v c) (allocate_all hs ++ (allocate h ∷ [])))) (decide_allocate c k t (Some (ch ∷ l)) e)
      ∙ ap (λ ss. accept (channel ch) ∷ ss) (allocating l hs h (apply S (take ch l k) c) t refl (omega arith))

  -- ---- deallocating

  -- a freed channel takes along the ties that were made through it, and no others
  pub deallocate_ties : (c : Connection) (ch h : ℕ) → c.taken ch ≡ Some h → (next role S c (deallocate ch)).ties ≡ dropped ch c.ties
  deallocate_ties c ch h e = ap (λ o. (after S (released ch o) c).ties) e

  -- where it is not taken, all ties stay
  pub untaken_ties : (c : Connection) (ch : ℕ) → c.taken ch ≡ None → (next role S c (deallocate ch)).ties ≡ c.ties
  untaken_ties c ch e = ap (λ o. (after S (released ch o) c).ties) e

  -- a freed number is the next that is given
  pub deallocate_first : (c : Connection) (ch h : ℕ) (l : List ℕ) → c.taken ch ≡ Some h → c.hand_out ≡ Some l → (next role S c (deallocate ch)).hand_out ≡ Some (ch ∷ l)
  deallocate_first c ch h l e p = ap (λ o. (after S (released ch o) c).hand_out) e ∙ ap (freed_first ch) p

-- ---- the order of the list

-- the numbers that were freed and not given again, latest first; and the least number that was never given
pub record Pool : Type 0 where
  pub freed_numbers : List ℕ
  pub unused : ℕ

abbrev pub pool : List ℕ → ℕ → Pool
pool fs n = record { freed_numbers = fs; unused = n }

-- what a pool gives in turn, up to m
abbrev pub numbers : ℕ → Pool → List ℕ
numbers m p = p.freed_numbers ++ up_from p.unused (suc m - p.unused)

abbrev pub drawn : List ℕ → ℕ → Pool
drawn [] n = pool [] (suc n)
drawn (f ∷ fs) n = pool fs n

abbrev pub pooled : Effect → Pool → Pool
pooled stay p = p
pooled (go x) p = p
pooled (agree x m w) p = pool [] 0
pooled (take ch rest h) p = drawn p.freed_numbers p.unused
pooled (give ch) p = pool (ch ∷ p.freed_numbers) p.unused
pooled (tie n t) p = p
pooled (take_and_tie ch rest h at) p = drawn p.freed_numbers p.unused

abbrev pub pool_after : Verdict Outcome → Pool → Pool
pool_after (refuse k) p = p
pool_after (accept o) p = pooled o.effect p

-- the pool after a list of calls
abbrev pub pool_in : Role → Settings → Connection → Pool → List Call → Pool
pool_in role S c p [] = p
pool_in role S c p (call ∷ calls) = pool_in role S (next role S c call) (pool_after (decide role S c call) p) calls

abbrev pub Ordered : Option ℕ → Option (List ℕ) → Pool → Type 0
Ordered None l p = Unit {0}
Ordered (Some m) None p = Unit {0}
Ordered (Some m) (Some l) p = (l ≡ numbers m p) × (p.unused ≤ suc m)

drawn_new : (m n ch : ℕ) (rest : List ℕ) (k : ℕ) → suc m - n ≡ k → ch ∷ rest ≡ up_from n k → n ≤ suc m → (rest ≡ up_from (suc n) (suc m - suc n)) × (suc n ≤ suc m)
drawn_new m n ch rest zero d e u = let z : ◌≡◌ {A = ℕ} 0 1 = cc in absurd (omega arith)
drawn_new m n ch rest (suc k) d e u = let q : rest ≡ up_from (suc n) k = cc in let r : k ≡ suc m - suc n = omega arith in (q ∙ ap (up_from (suc n)) r, omega arith)

drawn_ordered : (m ch : ℕ) (rest fs : List ℕ) (n : ℕ) → Ordered (Some m) (Some (ch ∷ rest)) (pool fs n) → Ordered (Some m) (Some rest) (drawn fs n)
drawn_ordered m ch rest [] n i = drawn_new m n ch rest (suc m - n) refl i.0 i.1
drawn_ordered m ch rest (f ∷ fs) n i = let e : ch ∷ rest ≡ f ∷ numbers m (pool fs n) = i.0 in (cc, i.1)

ordered_take : (a : Option ℕ) (l : Option (List ℕ)) (p : Pool) (ch : ℕ) (rest : List ℕ) → l ≡ Some (ch ∷ rest) → Ordered a l p → Ordered a (Some rest) (drawn p.freed_numbers p.unused)
ordered_take a l p ch rest e i = among a (subst (λ o. Ordered a o p) e i)
  where
    among : (b : Option ℕ) → Ordered b (Some (ch ∷ rest)) p → Ordered b (Some rest) (drawn p.freed_numbers p.unused)
    among None j = tt
    among (Some m) j = drawn_ordered m ch rest p.freed_numbers p.unused j

ordered_give : (a : Option ℕ) (l : Option (List ℕ)) (p : Pool) (ch : ℕ) → Ordered a l p → Ordered a (freed_first ch l) (pool (ch ∷ p.freed_numbers) p.unused)
ordered_give None l p ch i = tt
ordered_give (Some m) None p ch i = tt
ordered_give (Some m) (Some l) p ch i = (ap (λ s. ch ∷ s) i.0, i.1)

module _ (H : ℕ → Type 0) (S : Settings) where
  ordered_keeps : (e : Effect) (c : Connection) (p : Pool) → Legit H S c e → Ordered c.agreed_max c.hand_out p → Ordered (apply S e c).agreed_max (apply S e c).hand_out (pooled e p)
  ordered_keeps stay c p l i = i
  ordered_keeps (go x) c p l i = i
  ordered_keeps (agree x m w) c p l i = let r : suc m ≡ suc m - 0 = omega arith in (ap (up_from 0) r, omega arith)
  ordered_keeps (take ch rest h) c p l i = ordered_take c.agreed_max c.hand_out p ch rest l.next i
  ordered_keeps (give ch) c p l i = ordered_give c.agreed_max c.hand_out p ch i
  ordered_keeps (tie n t) c p l i = i
  ordered_keeps (take_and_tie ch rest h at) c p l i = ordered_take c.agreed_max c.hand_out p ch rest l.0.next i

  ordered_after : (c : Connection) (p : Pool) {v : Verdict Outcome} → Holds (Lawful H S c) v → Ordered c.agreed_max c.hand_out p → Ordered (after S v c).agreed_max (after S v c).hand_out (pool_after v p)
  ordered_after c p refused i = i
  ordered_after c p (holds {a} l) i = ordered_keeps a.effect c p l i

module _ (role : Role) (S : Settings) where
  ordered_run : (calls : List Call) (c : Connection) (p : Pool) → Ordered c.agreed_max c.hand_out p → Ordered (run role S c calls).agreed_max (run role S c calls).hand_out (pool_in role S c p calls)
  ordered_run [] c p i = i
  ordered_run (call ∷ calls) c p i =
      ordered_run calls (next role S c call) (pool_after (decide role S c call) p)
      (ordered_after (λ h. Unit {0}) S c p (lawful (λ h. Unit {0}) role S c call (lends_any call)) i)

  ordered_list : (a : Option ℕ) (o : Option (List ℕ)) (p : Pool) → Ordered a o p → (m : ℕ) (l : List ℕ) → a ≡ Some m → o ≡ Some l → l ≡ numbers m p
  ordered_list a o p i m l e q = (subst (λ b. Ordered b (Some l) p) e (subst (λ b. Ordered a b p) q i)).0

  -- the hand-out list is the freed numbers, latest first, and then the never-used ones, ascending to the agreed channel-max
  pub hand_out_order :
      (calls : List Call) (m : ℕ) (l : List ℕ) → (run role S fresh calls).agreed_max ≡ Some m → (run role S fresh calls).hand_out ≡ Some l
      → l ≡ numbers m (pool_in role S fresh (pool [] 0) calls)
  hand_out_order calls m l e q =
      ordered_list (run role S fresh calls).agreed_max (run role S fresh calls).hand_out (pool_in role S fresh (pool [] 0) calls)
      (ordered_run calls fresh (pool [] 0) tt) m l e q
