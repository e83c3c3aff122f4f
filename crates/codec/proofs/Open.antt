-- An Open that was written is read back with the settings that it was written from. The result is `open_read_back`.
-- Assumes nothing.
use mathlib.Core.Path.{◌≡◌, refl, ap, ◌∙◌}
use mathlib.Core.Bool.{true, false}
use mathlib.Core.List.{List, [], ◌++◌}
use Rattle.std.specs.Prelude.{Option, None, Some}
use Prim.Native.Nat.{ℕ, suc, ◌^◌, ◌<◌, ◌≤◌}
use native.Mathlib.Omega.{arith}
use lib.ListN.{length, get_or, length-append, get_or-eq_default}
use Rattle.octets.specs.Verdict.{accept}
use Rattle.octets.specs.Octets.{bytes_of, starts_with}
use Rattle.values.specs.Null.{null}
use Rattle.values.proofs.Written.{Whole, Each}
use Rattle.serializer.specs.Written.{uint, ushort, text, joined, trimmed, composite_header, composite}
use Rattle.serializer.proofs.Laws.{text_len_short, header_few}
use Rattle.performatives.specs.Fields.{UShort, UInt, String, fields_in, fields_of}
use Rattle.performatives.specs.Performative.{fits, fit, number_or}
use Rattle.frame_decoder.specs.Frame.{read_frame}
use Rattle.frame_encoder.specs.Frames.{Settings, settings_ok, idle_field, open_fields, open_body, frame_bytes}
use Rattle.frame_encoder.proofs.Laws.{length_frame, Within, settings_within}
use Rattle.codec.specs.ReadBack.{frame_of, ReadBack, millis, OpenSays}
use Rattle.codec.proofs.Values.{fits_present, null_whole, uint_whole, uint_number, uint_typed, uint_present, uint_short, ushort_whole, ushort_number, ushort_typed, ushort_present, string_whole, string_typed, string_present}
use Rattle.codec.proofs.Trimmed.{trimmed_short, trimmed_field}
use Rattle.codec.proofs.Frames.{rows_of, read_as_lem, composite_framed}

-- ---- the idle-time-out

idle_whole : (d : ℕ) (o : Option ℕ) → Whole (suc d) (idle_field o)
unfolding idle_field
idle_whole d None = null_whole d
idle_whole d (Some n) = uint_whole n d

idle_fits : (o : Option ℕ) → fits UInt false (idle_field o) ≡ true
unfolding idle_field fits starts_with
idle_fits None = refl
idle_fits (Some n) = rw (uint_present n) (uint_typed n)

idle_short : (o : Option ℕ) → length (idle_field o) ≤ 5
unfolding idle_field
idle_short None = omega arith
idle_short (Some n) = uint_short n

idle_number_lem : (o : Option ℕ) → millis o < 256 ^ 4 → number_or 0 (idle_field o) ≡ millis o
unfolding idle_field number_or starts_with
idle_number_lem None h = refl
idle_number_lem (Some n) h = rw (uint_present n) (uint_number n h)

-- ---- the fields

module _ (s : Settings) (ok : settings_ok s.container_id s.max_frame_size s.channel_max ≡ true) where
  bounds : Within s.container_id s.max_frame_size s.channel_max
  bounds = settings_within s.container_id s.max_frame_size s.channel_max ok

  open_whole : Each (Whole 16) (open_fields s)
  unfolding open_fields
  open_whole = (string_whole s.container_id 15 (omega (arith, bounds.id_short)), (null_whole 15, (uint_whole s.max_frame_size 15, (ushort_whole s.channel_max 15, (idle_whole 15 s.idle_time_out, tt)))))

  open_short : length (frame_bytes 0 (open_body s)) ≤ 1000
  unfolding composite joined open_fields ushort bytes_of
  open_short =
      let fs : List (List ℕ) = trimmed (open_fields s) in
      let id : List ℕ = text 0xa1 s.container_id in
      let size : List ℕ = uint s.max_frame_size in
      let channel : List ℕ = ushort s.channel_max in
      let idle : List ℕ = idle_field s.idle_time_out in
      let short : length (joined fs) ≤ length (id ++ (null ++ (size ++ (channel ++ (idle ++ []))))) = trimmed_short (open_fields s) in
      omega (
        arith,
        bounds.id_short,
        length_frame 0 (open_body s),
        length-append (composite_header 16 (length fs) (length (joined fs))) (joined fs),
        header_few 16 (length fs) (length (joined fs)),
        length-append id (null ++ (size ++ (channel ++ (idle ++ [])))),
        length-append size (channel ++ (idle ++ [])),
        length-append idle [],
        text_len_short 0xa1 s.container_id bounds.id_short,
        uint_short s.max_frame_size,
        idle_short s.idle_time_out,
      )

  open_fit : fit (rows_of 16) (open_fields s) ≡ true
  unfolding fields_of fields_in fit fits open_fields starts_with
  open_fit =
      rw (
        fits_present String true (text 0xa1 s.container_id) (string_present s.container_id) (string_typed s.container_id),
        fits_present UInt false (uint s.max_frame_size) (uint_present s.max_frame_size) (uint_typed s.max_frame_size),
        fits_present UShort false (ushort s.channel_max) (ushort_present s.channel_max) (ushort_typed s.channel_max),
        idle_fits s.idle_time_out,
      )

  -- accepted, whatever the idle-time-out
  pub open_accepted : (limit highest : ℕ) (t : List ℕ) → length (frame_bytes 0 (open_body s)) ≤ limit → read_frame limit highest (frame_bytes 0 (open_body s) ++ t) ≡ accept (frame_of 0 (open_body s), Some (read_as_lem 16 (trimmed (open_fields s))))
  unfolding fields_of fields_in open_fields
  open_accepted limit highest t room =
      composite_framed limit highest 0 16 (rows_of 16) (open_fields s) t (omega arith) (omega arith) (omega (arith, open_short)) room refl open_whole open_fit (omega arith)

  open_says_lem : millis s.idle_time_out < 256 ^ 4 → OpenSays s (read_as_lem 16 (trimmed (open_fields s)))
  unfolding composite open_fields number_or
  open_says_lem h =
      let at : (i : ℕ) → get_or (trimmed (open_fields s)) i null ≡ get_or (open_fields s) i null = λ i. trimmed_field 16 (open_fields s) i open_whole in
      record {
        code = refl;
        end = refl;
        container_id_is = at 0;
        hostname = at 1;
        max_frame_size_is = ap (number_or 4294967295) (at 2) ∙ rw (uint_present s.max_frame_size) (uint_number s.max_frame_size (omega (arith, bounds.size_high)));
        channel_max_is = ap (number_or 65535) (at 3) ∙ rw (ushort_present s.channel_max) (ushort_number s.channel_max (omega (arith, bounds.channel_high)));
        idle_time_out_is = ap (number_or 0) (at 4) ∙ idle_number_lem s.idle_time_out h;
        others = λ i k. at i ∙ get_or-eq_default (open_fields s) null k;
      }

  pub open_read_back : (limit highest : ℕ) (t : List ℕ) → millis s.idle_time_out < 2 ^ 32 → length (frame_bytes 0 (open_body s)) ≤ limit → ReadBack limit highest 0 (open_body s) t (OpenSays s)
  open_read_back limit highest t h room = record { found = read_as_lem 16 (trimmed (open_fields s)); read = open_accepted limit highest t room; says = open_says_lem h }
