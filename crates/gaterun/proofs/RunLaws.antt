-- What is read into a buffer, and that its transcript is the input's. Assumes nothing.
use Rattle.std.proofs.Common.{ℕ, List, None, Some, arith, length, min, take, refl, sym, ap, subst, take_all, length-take-le, ◌≡◌, ◌+◌, ◌≤◌, ◌++◌, ◌∙◌}
use Rattle.std.proofs.lemmas.Bool.{lt-leb}
use Rattle.std.proofs.lemmas.List.{take-append-le}
use Rattle.std.proofs.Math.Seq.{take-append-add}
use borrow.Rule.Slice.PartMut.{post_of, put_mid}
use Rattle.std.specs.declared.option.Option.{Option}
use Rattle.std.specs.Io.KnownBytes.{Appends}
use Rattle.driver.specs.Playing.{transcript}
use Rattle.gaterun.specs.Run.{ReadsFront, WritesTranscript}
use Rattle.model.proofs.Logic.{by_lt}

-- After a read into the part of a buffer from `at` on: the bytes before it, and those that were read.
pub take_read : (at k n : ℕ) (buffer part : List ℕ) → at ≤ length buffer → n ≤ length part → take (at + n) (put_mid at k buffer part) ≡ take at buffer ++ take n part
take_read at k n buffer part within fits =
    let front = take at buffer in
    let rest = part ++ post_of at k buffer in
    ap (λ (m : ℕ). take (m + n) (front ++ rest)) (sym (length-take-le at buffer within)) ∙ take-append-add front rest n ∙ ap (λ l. front ++ l) (take-append-le n part (post_of at k buffer) fits)

-- A longer input than 64 KiB shows by the one byte more that the buffer holds.
transcript_of_front : (bytes buffer : List ℕ) (size : ℕ) → length buffer ≡ 65537 → size ≡ min (length bytes) (length buffer) → take size buffer ≡ take size bytes
    → transcript (take size buffer) ≡ transcript bytes
unfolding transcript
transcript_of_front bytes buffer size room count same =
    let front : length (take size bytes) ≡ size = length-take-le size bytes (omega arith) in
    by_lt 65536 (length bytes)
    (λ long. rw (same, front, lt-leb size 65536 (omega (arith, room, count, long)), lt-leb (length bytes) 65536 long) refl)
    (λ short.
    let all : take size bytes ≡ bytes = take_all size bytes (omega (arith, room, count, short)) in
    ap transcript (same ∙ all))

-- What was read was played, and the transcript written.
pub writes_transcript : (known before after : Option (List ℕ)) (buffer out : List ℕ) (size : ℕ) → length buffer ≡ 65537 → out ≡ transcript (take size buffer)
    → Appends before after out → ReadsFront known size buffer → WritesTranscript known before after
writes_transcript None before after buffer out size room printed written front = tt
writes_transcript (Some bytes) before after buffer out size room printed written front =
    subst (Appends before after) (printed ∙ transcript_of_front bytes buffer size room front.0 front.1) written
