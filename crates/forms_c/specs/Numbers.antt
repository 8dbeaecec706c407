-- What the exported functions promise: an outcome, of the numbered gate's too, a line of a schedule and a replay, handed over as numbers.
use Rattle.std.specs.Prelude.{ℕ, ◌≡◌, Option, None, Some, Result, Ok, Err, List, [], ◌∷◌, length}
use Rattle.model.specs.declared.Gate.{Gate}
use Rattle.model.specs.declared.Line.{Line}
use Rattle.model.specs.declared.Line.TheVariants.{Open, Plugin}
use Rattle.model.specs.declared.NotALine.{NotALine}
use Rattle.model.specs.Opening.{no_gate}
use Rattle.model.specs.Letters.{call_letter}
use Rattle.model.specs.Lists.{one_if}
use Rattle.model.specs.declared.Answer.TheVariants.{Took, Looked, Placed, Done}
use Rattle.model.specs.Refusals.{refusal_number}
use Rattle.model.specs.Slices.{Lent, LentOutcome}
use Rattle.answers.specs.declared.shown.Shown.{Shown}
use Rattle.answers.specs.Answers.{numbers_of}
use Rattle.results.specs.Results.{Results}
use Rattle.told.specs.declared.Told.{Told}
use Rattle.told.specs.Told.{told_of}
use Rattle.replay.specs.declared.not_replayed.NotReplayed.{NotReplayed}
use Rattle.replay.specs.declared.not_replayed.NotReplayed.TheVariants.{NoSuchCall, NotOpened, TooShort}
use Rattle.replay.specs.Replay.{Replays}
use Rattle.numbered.specs.declared.NumberedGate.{NumberedGate}
use Rattle.numbered.specs.Calls.{NumberedAnswered, shown_numbered}
use Rattle.numbered.specs.Slices.{NumberedLent, NumberedLentOutcome}
use Rattle.forms_c.specs.declared.numbered_passing.NumberedTold.{NumberedTold}
use Rattle.forms_c.specs.declared.replaying.Ending.{Ending}

-- A call's outcome `o` on a lent gate was met: words and list are as it leaves them, and what is shown is its answer's.
pub record Answered (o : LentOutcome) (shown : Shown) (gate : Gate) (slices : Lent) : Type 0 where
  pub gate_is : gate ≡ o.gate
  pub shown_is : shown ≡ numbers_of o.answer
  pub slices_are : slices ≡ o.slices

-- The same of an outcome of a call whose words were passed.
pub record Tells (o : LentOutcome) (told : Told) (slices : Lent) : Type 0 where
  pub told_is : told ≡ told_of o.gate o.answer
  pub slices_are : slices ≡ o.slices

-- The kind of the numbered gate's answer: "ticket, yes or no, place, done, or refused", 0 to 4.
abbrev pub numbered_kind : NumberedAnswered → ℕ
numbered_kind (Ok (Took t)) = 0
numbered_kind (Ok (Looked v)) = 1
numbered_kind (Ok (Placed n)) = 2
numbered_kind (Ok Done) = 3
numbered_kind (Err refusal) = 4

-- The numbered gate's words, with what its answer shows, as numbers: yes is 1 and no is 0.
abbrev pub numbered_told_of : NumberedGate → NumberedAnswered → NumberedTold
numbered_told_of g a = record {
  gate = g;
  number = (shown_numbered a).number;
  kind = numbered_kind a;
  yes = one_if (shown_numbered a).yes;
  ticket = (shown_numbered a).ticket;
  place = (shown_numbered a).place;
}

-- The same as `Tells`, of the numbered gate.
pub record NumberedTells (o : NumberedLentOutcome) (told : NumberedTold) (slices : NumberedLent) : Type 0 where
  pub told_is : told ≡ numbered_told_of o.gate o.answer
  pub slices_are : slices ≡ o.slices

-- What next call answers, as numbers: its kind (0 end, 1 open, 2 a call, 3 no line), the call's letter, and the arguments.
abbrev pub line_numbers : Result (Option Line) NotALine → List ℕ
line_numbers (Ok None) = 0 ∷ 0 ∷ 0 ∷ 0 ∷ []
line_numbers (Ok (Some (Open n k))) = 1 ∷ 0 ∷ n ∷ k ∷ []
line_numbers (Ok (Some (Plugin c p))) = 2 ∷ call_letter c ∷ p ∷ 0 ∷ []
line_numbers (Err no_line) = 3 ∷ 0 ∷ 0 ∷ 0 ∷ []

-- A line handed over: the numbers of the answer, and how long the rest is.
pub record Noted (answer : Result (Option Line) NotALine) (rest : List ℕ) (size : ℕ) (numbers : List ℕ) : Type 0 where
  pub size_is : size ≡ length rest
  pub numbers_are : numbers ≡ line_numbers answer

-- Unless the calls were run the words are those of no gate.
abbrev pub ended_as : ℕ → ℕ → Ending
ended_as ended number = record { gate = no_gate; ended = ended; number = number }

-- How a replay ended, as numbers: 0 ran, 1 the open was refused, 2 too little was lent, 3 a letter names no call; and a refused open's number.
abbrev pub ending_of : Result Gate NotReplayed → Ending
ending_of (Ok g) = record { gate = g; ended = 0; number = 0 }
ending_of (Err (NotOpened refusal)) = ended_as 1 (refusal_number refusal)
ending_of (Err TooShort) = ended_as 2 0
ending_of (Err NoSuchCall) = ended_as 3 0

-- What replay promises, handed over.
pub record ReplayTold (year n k : ℕ) (calls plugins : List ℕ) (l : Lent) (w : Results) (r : Ending) (l' : Lent) (w' : Results) : Type 0 where
  pub replayed : Result Gate NotReplayed
  pub replays : Replays year n k calls plugins l w replayed l' w'
  pub ending_is : r ≡ ending_of replayed
