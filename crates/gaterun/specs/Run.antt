-- What a run reads and writes, of a reader whose bytes are known and a writer whose bytes are. Of others nothing is said.
use Rattle.std.specs.Prelude.{ℕ, ◌≡◌, ⊤, List, None, Some, length, min, take}
use Rattle.std.specs.Io.KnownBytes.{Appends}
use Rattle.std.specs.declared.option.Option.{Option}
use Rattle.driver.specs.Playing.{transcript}

-- The first `size` bytes of the buffer are the input's: all of them, or as many as the buffer has.
abbrev pub ReadsFront : Option (List ℕ) → ℕ → List ℕ → Type 0
ReadsFront None size buffer = ⊤
ReadsFront (Some bytes) size buffer = (size ≡ min (length bytes) (length buffer)) × (take size buffer ≡ take size bytes)

-- The writer's bytes grow by the transcript of the input's.
abbrev pub WritesTranscript : Option (List ℕ) → Option (List ℕ) → Option (List ℕ) → Type 0
WritesTranscript None before after = ⊤
WritesTranscript (Some bytes) before after = Appends before after (transcript bytes)
