-- What each step of the functions on a single field shows, with the answers of the functions that they call as they come.
-- Assumes nothing.
use mathlib.Core.Path.{◌≡◌, refl, sym, ap, ◌∙◌}
use mathlib.Core.Bool.{Bool, true, false, cond, ◌&&◌, ◌||◌}
use mathlib.Core.List.{List, [], ◌∷◌, ◌++◌}
use Rattle.std.specs.Prelude.{Option, None, Some, unwrap_or}
use Prim.Native.Nat.{ℕ, zero, suc, ◌+◌, ◌*◌, ◌-◌, ◌/◌, ◌%◌, ◌^◌, ◌<◌, ◌≤◌}
use native.Mathlib.Omega.{arith}
use lib.ListN.{length, take, drop, get_or, length-drop, drop_of_length-le}
use lib.Seq.{take_all}
use lib.Dec.{eqb, leb}
use borrow.Author.Tests.{eq-eqb, ne_eqb}
use Rattle.octets.specs.Octets.{big_endian, big_endian_from, bytes_of, put, starts_with}
use Rattle.values.specs.Value.{value_end}
use Rattle.values.specs.Null.{null, is_null}
use Rattle.values.specs.Answers.{well_formed}
use Rattle.serializer.specs.Written.{uint, ushort, text_header, text}
use Rattle.performatives.specs.declared.FieldType as C
use Rattle.performatives.specs.declared.FieldType.TheVariants.{Any, UShort, UInt, String, Error}
use Rattle.performatives.specs.Answers.{type_says}
use Rattle.session_frame.specs.declared.field.Size.{Size}
use Rattle.session_frame.specs.declared.field.Kept.{Kept}
use Rattle.session_frame.specs.Session.{text_of, default_of}
use Rattle.session_frame.specs.Parts.{end_or, first_len, number_bytes, text_start, size_of, kept_before}

-- the rest of s from a on, as the code hands it down
abbrev pub rest : List ℕ → ℕ → List ℕ
rest s a = take (length s - a) (drop a s)

pub rest_is : (s : List ℕ) (a : ℕ) → rest s a ≡ drop a s
rest_is s a = take_all (length s - a) (drop a s) (omega (arith, length-drop a s))

-- ---- before

module _ (f : Size) (k : Kept) where
  pub kept_some : 0 < k.count → ◌≡◌ {A = Kept} (record { count = k.count + 1; len = k.len + f.len }) (kept_before f k)
  unfolding kept_before
  kept_some h = go f.null
    where
      go : (b : Bool) → ◌≡◌ {A = Kept} (record { count = k.count + 1; len = k.len + f.len }) (cond (b && eqb k.count 0) (record { count = 0; len = 0 }) (record { count = k.count + 1; len = k.len + f.len }))
      go true = rw (ne_eqb k.count 0 (λ e. omega arith))
      go false = refl

  module _ (none_after : k.count ≤ 0) where
    pub kept_null : f.null ≡ true → ◌≡◌ {A = Kept} (record { count = 0; len = 0 }) (kept_before f k)
    unfolding kept_before
    kept_null e = let z : k.count ≡ 0 = omega arith in rw (e, eq-eqb k.count 0 z)

    pub kept_last : f.null ≡ false → ◌≡◌ {A = Kept} (record { count = k.count + 1; len = k.len + f.len }) (kept_before f k)
    unfolding kept_before
    kept_last e = rw e

-- ---- number_of

pub number_none : (f : List ℕ) → length f ≡ 0 → (0 ≡ big_endian (number_bytes f)) × (0 < 2 ^ (8 * length (number_bytes f)))
unfolding big_endian big_endian_from number_bytes
number_none [] h = (refl, omega arith)
number_none (b ∷ f) h = absurd (omega arith)

pub number_some : (f : List ℕ) (x : ℕ) → x ≡ big_endian (take 8 (rest f 1)) → x < 2 ^ (8 * length (take 8 (rest f 1))) → (x ≡ big_endian (number_bytes f)) × (x < 2 ^ (8 * length (number_bytes f)))
unfolding number_bytes
number_some f x e h = (rw (rest_is f 1) at e, rw (rest_is f 1) at h)

-- ---- text_start, text_of

text_drop : (f : List ℕ) (b : Bool) → starts_with (0xa1 ∷ 0xa3 ∷ []) f ≡ b → drop (text_start f) f ≡ text_of f
unfolding text_of text_start
text_drop f true e = rw e
text_drop f false e = rw e

module _ (f : List ℕ) (n : ℕ) (e : n ≡ text_start f) where
  text_at_lem : drop n f ≡ text_of f
  text_at_lem = rw e (text_drop f (starts_with (0xa1 ∷ 0xa3 ∷ []) f) refl)

  pub text_cut : length f < n → take 0 f ≡ text_of f
  text_cut h = sym (drop_of_length-le f {i = n} (omega arith)) ∙ text_at_lem

  pub text_rest : (t : List ℕ) → t ≡ rest f n → t ≡ text_of f
  text_rest t q = q ∙ rest_is f n ∙ text_at_lem

-- ---- sizes

pub size_is : (w : List ℕ) (n : ℕ) (b : Bool) → n ≡ length w → b ≡ is_null w → ◌≡◌ {A = Size} (record { len = n; null = b }) (size_of w)
unfolding size_of
size_is w n b p q = rw (p, q)

pub size_null : ◌≡◌ {A = Size} (record { len = 1; null = true }) (size_of null)
unfolding size_of starts_with
size_null = refl

uint_some_at : (n : ℕ) (a b : Bool) → eqb n 0 ≡ a → leb n 255 ≡ b → false ≡ is_null (uint n)
unfolding uint starts_with
uint_some_at n true b p q = rw p
uint_some_at n false true p q = rw (p, q)
uint_some_at n false false p q = rw (p, q)

pub size_uint : (n l : ℕ) → l ≡ length (uint n) → ◌≡◌ {A = Size} (record { len = l; null = false }) (size_of (uint n))
size_uint n l e = size_is (uint n) l false e (uint_some_at n (eqb n 0) (leb n 255) refl refl)

pub size_ushort : (n : ℕ) → ◌≡◌ {A = Size} (record { len = 3; null = false }) (size_of (ushort n))
unfolding ushort bytes_of starts_with
size_ushort n = size_is (ushort n) 3 false refl refl

text_some_at : (code n : ℕ) (bs : List ℕ) (b : Bool) → leb n 255 ≡ b → (code ≡ 0x40 → ⊥) → (code + 16 ≡ 0x40 → ⊥) → false ≡ is_null (text_header code n ++ bs)
unfolding text_header starts_with
text_some_at code n bs true e h k = rw (e, ne_eqb _ _ h)
text_some_at code n bs false e h k = rw (e, ne_eqb _ _ k)

pub text_some : (code : ℕ) (bs : List ℕ) → (code ≡ 0x40 → ⊥) → (code + 16 ≡ 0x40 → ⊥) → false ≡ is_null (text code bs)
unfolding text
text_some code bs h k = text_some_at code (length bs) bs (leb (length bs) 255) refl h k

-- ---- put_null, default_size, put_default

pub null_laid : (o d : List ℕ) (at : ℕ) → o ≡ put d at (bytes_of 1 64) → o ≡ put d at null
unfolding bytes_of
null_laid o d at e = e

module _ (kind : C.FieldType) (default : Option ℕ) where
  null_default : default ≡ None → null ≡ default_of (type_says kind) default
  null_default e = rw e (go kind)
    where
      go : (kind : C.FieldType) → null ≡ default_of (type_says kind) None
      go Any = refl
      go UShort = refl
      go UInt = refl
      go String = refl
      go Error = refl

  module _ (n : ℕ) (e : default ≡ Some n) where
    any_default : kind ≡ Any → null ≡ default_of (type_says kind) default
    any_default q = rw (e, q)

    string_default : kind ≡ String → null ≡ default_of (type_says kind) default
    string_default q = rw (e, q)

    error_default : kind ≡ Error → null ≡ default_of (type_says kind) default
    error_default q = rw (e, q)

    ushort_default : kind ≡ UShort → ushort n ≡ default_of (type_says kind) default
    ushort_default q = rw (e, q)

    uint_default : kind ≡ UInt → uint n ≡ default_of (type_says kind) default
    uint_default q = rw (e, q)

    pub default_size_any : kind ≡ Any → ◌≡◌ {A = Size} (record { len = 1; null = true }) (size_of (default_of (type_says kind) default))
    default_size_any q = size_null ∙ ap size_of (any_default q)

    pub default_size_string : kind ≡ String → ◌≡◌ {A = Size} (record { len = 1; null = true }) (size_of (default_of (type_says kind) default))
    default_size_string q = size_null ∙ ap size_of (string_default q)

    pub default_size_error : kind ≡ Error → ◌≡◌ {A = Size} (record { len = 1; null = true }) (size_of (default_of (type_says kind) default))
    default_size_error q = size_null ∙ ap size_of (error_default q)

    pub default_size_ushort : kind ≡ UShort → ◌≡◌ {A = Size} (record { len = 3; null = false }) (size_of (default_of (type_says kind) default))
    default_size_ushort q = size_ushort n ∙ ap size_of (ushort_default q)

    pub default_size_uint : kind ≡ UInt → (l : ℕ) → l ≡ length (uint n) → ◌≡◌ {A = Size} (record { len = l; null = false }) (size_of (default_of (type_says kind) default))
    default_size_uint q l h = size_uint n l h ∙ ap size_of (uint_default q)

    module _ (o d : List ℕ) (at : ℕ) where
      pub put_default_any : kind ≡ Any → o ≡ put d at null → o ≡ put d at (default_of (type_says kind) default)
      put_default_any q h = h ∙ ap (put d at) (any_default q)

      pub put_default_string : kind ≡ String → o ≡ put d at null → o ≡ put d at (default_of (type_says kind) default)
      put_default_string q h = h ∙ ap (put d at) (string_default q)

      pub put_default_error : kind ≡ Error → o ≡ put d at null → o ≡ put d at (default_of (type_says kind) default)
      put_default_error q h = h ∙ ap (put d at) (error_default q)

      pub put_default_ushort : kind ≡ UShort → o ≡ put d at (ushort (n % 65536)) → o ≡ put d at (default_of (type_says kind) default)
      unfolding ushort bytes_of
      put_default_ushort q h =
          let a : n % 65536 / 256 % 256 ≡ n / 256 % 256 = omega arith in
          let b : n % 65536 / 1 % 256 ≡ n / 1 % 256 = omega arith in
          (rw (a, b) at h) ∙ ap (put d at) (ushort_default q)

      pub put_default_uint : kind ≡ UInt → o ≡ put d at (uint n) → o ≡ put d at (default_of (type_says kind) default)
      put_default_uint q h = h ∙ ap (put d at) (uint_default q)

  pub default_size_null : default ≡ None → ◌≡◌ {A = Size} (record { len = 1; null = true }) (size_of (default_of (type_says kind) default))
  default_size_null e = size_null ∙ ap size_of (null_default e)

  pub put_default_null : (o d : List ℕ) (at : ℕ) → default ≡ None → o ≡ put d at null → o ≡ put d at (default_of (type_says kind) default)
  put_default_null o d at e h = h ∙ ap (put d at) (null_default e)

-- ---- first_len

module _ (count : ℕ) (s : List ℕ) where
  pub first_missing : count ≡ 0 → 0 ≡ first_len count s
  unfolding first_len
  first_missing e = rw e

  unwrapped : (v : Option ℕ) → unwrap_or v 0 ≡ end_or 0 (well_formed v)
  unwrapped None = refl
  unwrapped (Some n) = refl

  pub first_ends : (v : Option ℕ) (n : ℕ) → (count ≡ 0 → ⊥) → well_formed v ≡ value_end 16 s → n ≡ unwrap_or v 0 → n ≡ first_len count s
  unfolding first_len
  first_ends v n some_left e q = go count some_left
    where
      go : (count : ℕ) → (count ≡ 0 → ⊥) → n ≡ first_len count s
      go zero h = absurd (h refl)
      go (suc k) h = q ∙ unwrapped v ∙ ap (end_or 0) e
