-- What is written is what the schedule's reader reads: a number's decimal notation says that number, and each call's letter names that call.
-- Assumes nothing.
use Prim.Native.Nat.{ℕ, zero, suc, ◌+◌, ◌-◌, ◌*◌, ◌/◌, ◌%◌, ◌<◌}
use mathlib.Core.Path.{◌≡◌, refl, ◌∙◌}
use mathlib.Core.List.{List, [], ◌∷◌, ◌++◌}
use native.Mathlib.Omega.{arith}
use native.Mathlib.Nat.{div-lt_self, div-add-mod', not-suc-le-zero}
use borrow.Author.Tests.{lt-ltb, le-ltb}
use Rattle.model.specs.declared.Call.{Call}
use Rattle.model.specs.declared.Call.TheVariants.{Take, Look, Leave, Place, Stop, Wake}
use Rattle.std.specs.Prelude.{Some}
use Rattle.model.specs.declared.Line.TheVariants.{Plugin}
use Rattle.model.specs.Schedule.{number_from, call_line}
use Rattle.model.specs.Letters.{call_letter}
use Rattle.transcript.specs.Lines.{decimal_in, decimal}
use Rattle.model.proofs.Logic.{by_lt}

number_append : (k : ℕ) (a b : List ℕ) → number_from k (a ++ b) ≡ number_from (number_from k a) b
unfolding number_from
number_append k [] b = refl
number_append k (d ∷ a) b = number_append (k * 10 + (d - 48)) a b

back_in : (turns n : ℕ) → n < turns → number_from 0 (decimal_in turns n) ≡ n
unfolding number_from decimal_in
back_in zero n h = absurd (not-suc-le-zero h)
back_in (suc turns) n h =
    by_lt n 10
    (λ l. rw (lt-ltb n 10 l) (omega arith))
    (λ g.
    let less : n / 10 < n = div-lt_self (omega arith) (omega arith) in
    let front = back_in turns (n / 10) (omega arith) in
    rw (le-ltb n 10 g)
    (number_append 0 (decimal_in turns (n / 10)) ((48 + n % 10) ∷ []) ∙ omega (arith, front, div-add-mod' n 10)))

pub reads_back : (n : ℕ) → number_from 0 (decimal n) ≡ n
unfolding decimal
reads_back n = back_in (suc n) n (omega arith)

pub letter_names : (c : Call) (p : ℕ) → call_line (call_letter c) p ≡ Some (Plugin c p)
unfolding call_line
letter_names Take p = refl
letter_names Look p = refl
letter_names Leave p = refl
letter_names Place p = refl
letter_names Stop p = refl
letter_names Wake p = refl
