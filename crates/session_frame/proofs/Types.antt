-- A field by its type: its size and its bytes as it is written, with the answers of the functions that write each type as they come.
-- Assumes nothing.
use mathlib.Core.Path.{◌≡◌, refl, sym, ap, ◌∙◌, subst}
use mathlib.Core.Bool.{Bool, true, false}
use mathlib.Core.List.{List, [], ◌∷◌}
use Rattle.std.specs.Prelude.{Option}
use Prim.Native.Nat.{ℕ, ◌+◌, ◌*◌, ◌-◌, ◌^◌, ◌<◌, ◌≤◌}
use native.Mathlib.Omega.{arith}
use mir.Syntax.{w16, w32, w64}
use mir.Val.{Fits}
use lib.ListN.{length, drop, length-drop}
use lib.Seq.{take_all}
use lib.Pow.{pow_mono}
use Rattle.octets.specs.Octets.{big_endian, put, starts_with}
use Rattle.values.specs.Null.{is_null, or_null}
use Rattle.serializer.specs.Written.{uint, ushort, text}
use Rattle.performatives.specs.Fields as D
use Rattle.performatives.specs.Performative.{number_of}
use Rattle.performatives.specs.declared.FieldType as C
use Rattle.performatives.specs.declared.FieldType.TheVariants.{Any, UShort, UInt, String, Error}
use Rattle.performatives.specs.Answers.{type_says}
use Rattle.session_frame.specs.declared.field.Size.{Size}
use Rattle.session_frame.specs.Session.{text_of, default_of, shortest, written_as}
use Rattle.session_frame.specs.Parts.{Sized, number_bytes, size_of, Room}
use Rattle.session_frame.proofs.Steps.{size_is, size_uint, size_ushort, text_some}

-- ---- numbers

module _ (f : List ℕ) (few : length f ≤ 5) where
  bytes_are : number_bytes f ≡ drop 1 f
  unfolding number_bytes
  bytes_are = take_all 8 (drop 1 f) (omega (arith, length-drop 1 f))

  number_is : (x : ℕ) → x ≡ big_endian (number_bytes f) → x ≡ number_of f
  unfolding number_of
  number_is x e = e ∙ ap big_endian bytes_are

  number_low : (x w : ℕ) → x < 2 ^ (8 * length (number_bytes f)) → 8 * (length f - 1) ≤ w → x < 2 ^ w
  number_low x w h k =
      let l : length (number_bytes f) ≡ length f - 1 = ap length bytes_are ∙ length-drop 1 f in
      let p : 2 ^ (8 * length (number_bytes f)) ≤ 2 ^ w = pow_mono {i = 8 * length (number_bytes f)} {j = w} (omega arith) in
      omega arith

-- ---- shortest_size, put_shortest

module _ (f : List ℕ) (kind : C.FieldType) (z : Sized (type_says kind) f) where
  pub error_sized : kind ≡ Error → Sized D.Error f
  error_sized q = subst (λ (k : C.FieldType). Sized (type_says k) f) q z

  uint_short : kind ≡ UInt → length f ≤ 5
  unfolding Sized
  uint_short q = subst (λ (k : C.FieldType). Sized (type_says k) f) q z

  ushort_short : kind ≡ UShort → length f ≤ 3
  unfolding Sized
  ushort_short q = subst (λ (k : C.FieldType). Sized (type_says k) f) q z

module _ (f : List ℕ) (kind : C.FieldType) where
  any_is : kind ≡ Any → f ≡ shortest (type_says kind) f
  unfolding shortest
  any_is q = rw q

  ushort_is : kind ≡ UShort → ushort (number_of f) ≡ shortest (type_says kind) f
  unfolding shortest
  ushort_is q = rw q

  uint_is : kind ≡ UInt → uint (number_of f) ≡ shortest (type_says kind) f
  unfolding shortest
  uint_is q = rw q

  string_is : kind ≡ String → text 161 (text_of f) ≡ shortest (type_says kind) f
  unfolding shortest
  string_is q = rw q

  error_is : kind ≡ Error → shortest D.Error f ≡ shortest (type_says kind) f
  error_is q = rw q

  pub any_size_is : kind ≡ Any → is_null f ≡ false → record { len = length f; null = false } ≡ size_of (shortest (type_says kind) f)
  any_size_is q e = size_is f (length f) false refl (sym e) ∙ ap size_of (any_is q)

  pub ushort_size : kind ≡ UShort → record { len = 3; null = false } ≡ size_of (shortest (type_says kind) f)
  ushort_size q = size_ushort (number_of f) ∙ ap size_of (ushort_is q)

  pub error_size_is : (r : Size) → kind ≡ Error → r ≡ size_of (shortest D.Error f) → r ≡ size_of (shortest (type_says kind) f)
  error_size_is r q e = e ∙ ap size_of (error_is q)

  pub string_size : (t : List ℕ) (l : ℕ) → kind ≡ String → t ≡ text_of f → l ≡ length (text 161 t) → record { len = l; null = false } ≡ size_of (shortest (type_says kind) f)
  string_size t l q te le =
      size_is (text 161 t) l false le (text_some 161 t (λ e. omega arith) (λ e. omega arith)) ∙ ap size_of (ap (text 161) te ∙ string_is q)

  module _ (z : Sized (type_says kind) f) (x : ℕ) (e : x ≡ big_endian (number_bytes f)) where
    pub uint_low : kind ≡ UInt → x < 2 ^ (8 * length (number_bytes f)) → Fits w32 x
    uint_low q h =
        let l : length f ≤ 5 = uint_short f kind z q in
        record { fits = number_low f l x 32 h (omega arith) }

    pub ushort_low : kind ≡ UShort → x < 2 ^ (8 * length (number_bytes f)) → Fits w16 x
    ushort_low q h =
        let l : length f ≤ 3 = ushort_short f kind z q in
        record { fits = number_low f (omega arith) x 16 h (omega arith) }

    pub uint_size : (l : ℕ) → kind ≡ UInt → l ≡ length (uint x) → record { len = l; null = false } ≡ size_of (shortest (type_says kind) f)
    uint_size l q h = size_uint x l h ∙ ap size_of (ap uint (number_is f (uint_short f kind z q) x e) ∙ uint_is q)

    pub uint_laid : (o d : List ℕ) (at : ℕ) → kind ≡ UInt → o ≡ put d at (uint x) → o ≡ put d at (shortest (type_says kind) f)
    uint_laid o d at q h = h ∙ ap (put d at) (ap uint (number_is f (uint_short f kind z q) x e) ∙ uint_is q)

    pub ushort_laid : (o d : List ℕ) (at : ℕ) → kind ≡ UShort → o ≡ put d at (ushort x) → o ≡ put d at (shortest (type_says kind) f)
    ushort_laid o d at q h =
        let l : length f ≤ 3 = ushort_short f kind z q in
        h ∙ ap (put d at) (ap ushort (number_is f (omega arith) x e) ∙ ushort_is q)

  module _ (o d : List ℕ) (at : ℕ) where
    pub any_laid : kind ≡ Any → o ≡ put d at f → o ≡ put d at (shortest (type_says kind) f)
    any_laid q h = h ∙ ap (put d at) (any_is q)

    pub string_laid : (t : List ℕ) → kind ≡ String → t ≡ text_of f → o ≡ put d at (text 161 t) → o ≡ put d at (shortest (type_says kind) f)
    string_laid t q te h = h ∙ ap (put d at) (ap (text 161) te ∙ string_is q)

    pub error_room : kind ≡ Error → Room d at (shortest (type_says kind) f) → Room d at (shortest D.Error f)
    error_room q room = subst (Room d at) (sym (error_is q)) room

    pub error_laid : kind ≡ Error → o ≡ put d at (shortest D.Error f) → o ≡ put d at (shortest (type_says kind) f)
    error_laid q h = h ∙ ap (put d at) (error_is q)

-- ---- field_size, put_field

null_nonempty : (f : List ℕ) → is_null (or_null f) ≡ false → or_null f ≡ f
unfolding starts_with
null_nonempty [] e = let z : ◌≡◌ {A = ℕ} 0 1 = cc in absurd (omega arith)
null_nonempty (b ∷ f) e = refl

module _ (f : List ℕ) (b : Bool) (n : b ≡ is_null (or_null f)) (q : b ≡ false) where
  pub not_null : is_null f ≡ false
  not_null = ap is_null (sym (null_nonempty f (sym n ∙ q))) ∙ sym n ∙ q

  pub sized_some : (t : D.FieldType) → Sized t (or_null f) → Sized t f
  sized_some t z = subst (Sized t) (null_nonempty f (sym n ∙ q)) z

module _ (f : List ℕ) (t : D.FieldType) (default : Option ℕ) (b : Bool) (n : b ≡ is_null (or_null f)) where
  null_as : b ≡ true → default_of t default ≡ written_as t default (or_null f)
  unfolding written_as
  null_as q = rw (← n, q)

  some_as : b ≡ false → shortest t f ≡ written_as t default (or_null f)
  unfolding written_as
  some_as q = rw (← n, q) (ap (shortest t) (sym (null_nonempty f (sym n ∙ q))))

  pub null_size : (r : Size) → b ≡ true → r ≡ size_of (default_of t default) → r ≡ size_of (written_as t default (or_null f))
  null_size r q e = e ∙ ap size_of (null_as q)

  pub some_size : (r : Size) → b ≡ false → r ≡ size_of (shortest t f) → r ≡ size_of (written_as t default (or_null f))
  some_size r q e = e ∙ ap size_of (some_as q)

  module _ (d : List ℕ) (at : ℕ) where
    pub some_room : b ≡ false → Room d at (written_as t default (or_null f)) → Room d at (shortest t f)
    some_room q room = subst (Room d at) (sym (some_as q)) room

    pub null_put : (o : List ℕ) → b ≡ true → o ≡ put d at (default_of t default) → o ≡ put d at (written_as t default (or_null f))
    null_put o q h = h ∙ ap (put d at) (null_as q)

    pub some_put : (o : List ℕ) → b ≡ false → o ≡ put d at (shortest t f) → o ≡ put d at (written_as t default (or_null f))
    some_put o q h = h ∙ ap (put d at) (some_as q)

module _ (w : List ℕ) (r : Size) (e : r ≡ size_of w) (at : ℕ) where
  pub size_next : at + r.len ≡ at + length w
  unfolding size_of
  size_next = rw e

  pub size_fits : (d : List ℕ) → Room d at w → Fits w64 (at + r.len)
  unfolding size_of
  size_fits d room = rw e (omega (arith, room.low))
