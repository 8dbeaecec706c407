-- What is read off the start of a text, and the rest of that text.
use Rattle.std.specs.Prelude.{ℕ, ◌≡◌, Option, None, Some, List, IfSome}
use Rattle.std.specs.Borrow.{Bor}
use Rattle.schedule.specs.Next.{SameEnd}

-- A value that was read, and the rest by its bytes.
abbrev pub seen : {A : Type 0} → Option (A × Bor (List ℕ)) → Option (A × List ℕ)
seen None = None
seen (Some (x, rest)) = Some (x, rest.now)

-- What was read off the text `s` is what it was to be, and the rest ends where `s` ends.
pub record Reads {A : Type 0} (expected : Option (A × List ℕ)) (s : Bor (List ℕ)) (read : Option (A × Bor (List ℕ))) : Type 0 where
  pub value : seen read ≡ expected
  pub rest : IfSome read (λ r. SameEnd s r.1)
