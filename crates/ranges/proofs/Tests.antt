-- What a test's answer says: the laws of the code's early returns.
use mathlib.Core.Path.{sym, ◌≡◌}
use mathlib.Core.Bool.{Bool, false, true, true≢false}
use Rattle.model.proofs.Logic.{not_i}

-- An answer no, where yes cannot be.
pub answer_no : (b : Bool) → (b ≡ true → ⊥) → false ≡ b
answer_no b f = sym (not_i b f)

-- A test that tells whether P is true.
pub record Tells (b : Bool) (P : Type 0) : Type 0 where
  pub says : b ≡ true → P
  pub heeds : P → b ≡ true

pub tells_no : (P : Type 0) → (P → ⊥) → Tells false P
tells_no P f = record { says = λ e. absurd (true≢false (sym e)); heeds = λ p. absurd (f p) }
