-- Fields and their types: what each step of `is_error` and `fits` shows.
-- Assumes nothing.
use mathlib.Core.Path.{◌≡◌, sym, ap, ◌∙◌}
use mathlib.Core.Bool.{Bool, true, false, not}
use mathlib.Core.List.{List, [], ◌∷◌}
use Prim.Native.Nat.{ℕ, ◌-◌, ◌<◌, ◌≤◌}
use lib.ListN.{length, take, drop}
use borrow.Author.Tests.{eq-eqb, ne_eqb, le-leb, lt-leb}
use Rattle.octets.specs.Verdict.{refuse, accept}
use Rattle.octets.specs.Octets.{starts_with}
use Rattle.values.specs.Null.{null}
use Rattle.performatives.specs.declared.FieldType as C
use Rattle.performatives.specs.Answers.{type_says}
use Rattle.performatives.specs.Performative.{described, error_shape, is_error, has_type, fits}
use Rattle.performatives.proofs.Bounds.{described_lies}

module _ (f : List ℕ) where
  pub error_not : refuse 6 ≡ described f → false ≡ is_error f
  unfolding is_error error_shape
  error_not p = rw (← p)

  module _ (code count from end : ℕ) (p : accept (record { code = code; count = count; from = from; end = end }) ≡ described f) where
    is : described f ≡ accept (record { code = code; count = count; from = from; end = end })
    is = sym p

    pub items_ordered : from ≤ end
    items_ordered = (described_lies f _ is).ordered

    pub items_inside : end ≤ length f
    items_inside = (described_lies f _ is).inside

    pub error_other : (code ≡ 29 → ⊥) → false ≡ is_error f
    unfolding is_error error_shape
    error_other n = rw (is, ne_eqb code 29 n)

    module _ (named : code ≡ 29) where
      pub error_none : count < 1 → false ≡ is_error f
      unfolding is_error error_shape
      error_none h = rw (is, eq-eqb code 29 named, lt-leb 1 count h)

      module _ (filled : 1 ≤ count) where
        pub error_many : 3 < count → false ≡ is_error f
        unfolding is_error error_shape
        error_many h = rw (is, eq-eqb code 29 named, le-leb 1 count filled, lt-leb count 3 h)

        pub error_is : (b : Bool) → count ≤ 3 → b ≡ starts_with (0xa3 ∷ 0xb3 ∷ []) (take (end - from) (drop from f)) → b ≡ is_error f
        unfolding is_error error_shape
        error_is b h q = rw (is, eq-eqb code 29 named, le-leb 1 count filled, le-leb count 3 h) q

module _ (f : List ℕ) (kind : C.FieldType) (mandatory a : Bool) (p : a ≡ starts_with null f) where
  pub fits_null : a ≡ true → not mandatory ≡ fits (type_says kind) mandatory f
  unfolding fits
  fits_null t = rw (← p, t)

  pub fits_typed : (k : C.FieldType) (b : Bool) → a ≡ false → kind ≡ k → b ≡ has_type (type_says k) f → b ≡ fits (type_says kind) mandatory f
  unfolding fits
  fits_typed k b t e q = rw (← p, t, e) q
