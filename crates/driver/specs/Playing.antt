-- Document 01, "What gaterun prints": the transcript of a schedule. The host that plays it, what a line does to it and prints, and all
-- the lines in turn.
use Rattle.std.specs.Prelude.{ℕ, zero, suc, cond, Option, None, Some, Result, Ok, Err, List, [], ◌∷◌, ◌++◌, length, replicate, eqb, leb}
use Rattle.model.specs.declared.Call.{Call}
use Rattle.model.specs.declared.Gate.{Gate}
use Rattle.model.specs.declared.Line.{Line}
use Rattle.model.specs.declared.Line.TheVariants.{Open, Plugin}
use Rattle.model.specs.declared.NotALine.{NotALine}
use Rattle.model.specs.declared.Record.{Record}
use Rattle.model.specs.Calls.{call, idle_record}
use Rattle.model.specs.Opening.{no_gate, open_gate}
use Rattle.model.specs.Shown.{shown}
use Rattle.model.specs.Refusals.{Answered}
use Rattle.model.specs.Schedule.{next_call}
use Rattle.transcript.specs.Lines.{call_line_text, open_line_text, word_text}

-- What the host has between two lines.
pub record Host : Type 0 where
  pub gate : Gate
  pub list : List Record

-- It "starts with all words 0 and an empty list".
abbrev pub first_host : Host
first_host = record { gate = no_gate; list = [] }

-- What the host has after an open or a call, and the answer.
pub record Performed : Type 0 where
  pub host : Host
  pub answer : Answered

-- A call on the host's gate and list.
unfoldable pub after_call : Call → ℕ → Host → Performed
after_call c p h =
    let o = call c h.gate h.list p in
    record { host = record { gate = o.gate; list = o.list }; answer = o.answer }

-- "It lends an open of N up to 1,024 a list of N records"; a larger one is lent an empty list.
abbrev pub list_size : ℕ → ℕ
list_size n = cond (leb n 1024) n 0

-- "It lends .. the calls after it that list; a refused open leaves the gate and list it had." A.8: "`gaterun` opens 1989".
unfoldable pub after_open : ℕ → ℕ → Host → Performed
after_open n k h =
    let o = open_gate 1989 n k (replicate (list_size n) idle_record) in
    record { host = cond (eqb (shown o.answer).number 0) (record { gate = o.gate; list = o.list }) h; answer = o.answer }

-- "A bad line prints `bad`", "a longer input prints only `long`".
abbrev pub bad_text : List ℕ
bad_text = word_text (98 ∷ 97 ∷ 100 ∷ [])

abbrev pub long_text : List ℕ
long_text = word_text (108 ∷ 111 ∷ 110 ∷ 103 ∷ [])

-- What a line leaves the host, and the text that it prints.
pub record Turn : Type 0 where
  pub host : Host
  pub text : List ℕ

-- "Each call gives a line: letter, plugin, number, answer, ISSUE, VALID", the words as the call leaves them. "An open prints `O N k` and
-- its number."
unfoldable pub turn : Line → Host → Turn
turn (Open n k) h =
    let o = after_open n k h in
    record { host = o.host; text = open_line_text n k (shown o.answer).number }
turn (Plugin c p) h =
    let o = after_call c p h in
    record { host = o.host; text = call_line_text c p o.answer o.host.gate.issue o.host.gate.valid }

-- What next call's answer prints, and what is played `later` from the host as the line leaves it. "A bad line prints `bad` and the run ends";
-- the end prints nothing.
abbrev pub played_answer : Result (Option Line) NotALine → Host → (Host → List ℕ) → List ℕ
played_answer (Ok None) h later = []
played_answer (Ok (Some line)) h later = (turn line h).text ++ later (turn line h).host
played_answer (Err no_line) h later = bad_text

-- What at most `turns` lines print, from a part of a schedule on.
unfoldable pub played_in : ℕ → Host → List ℕ → List ℕ
played_in zero h s = []
played_in (suc turns) h s = played_answer (next_call s).answer h (λ g. played_in turns g (next_call s).rest)

-- What a part of a schedule prints: it has fewer lines than bytes and one.
unfoldable pub played : Host → List ℕ → List ℕ
played h s = played_in (suc (length s)) h s

-- What gaterun prints for an input. "It reads a schedule of at most 64 KiB"; "a longer input prints only `long`."
unfoldable pub transcript : List ℕ → List ℕ
transcript s = cond (leb (length s) 65536) (played first_host s) long_text
