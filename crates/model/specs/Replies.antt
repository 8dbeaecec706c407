-- What a call's function returns, a reply or a refusal, as the words after the call and its answer.
use Rattle.std.specs.Prelude.{Result, Ok, Err}
use Rattle.model.specs.declared.Effect.{Effect}
use Rattle.model.specs.declared.Refusal.{Refusal}
use Rattle.model.specs.declared.Reply.{Reply}

-- A refusal leaves the words as they were given, g.
abbrev pub words_after : {G A : Type 0} → G → Result (Reply G A) Refusal → G
words_after g (Ok r) = r.gate
words_after g (Err e) = g

abbrev pub answer_of : {G A : Type 0} → Result (Reply G A) Refusal → Result A Refusal
answer_of (Ok r) = Ok r.answer
answer_of (Err e) = Err e

-- What an accepted call makes of its plugin's record, and its answer.
abbrev pub effect : {R A : Type 0} → R → A → Effect R A
effect r a = record { «record» = r; answer = a }
