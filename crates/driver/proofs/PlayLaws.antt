-- A schedule, line by line: the lines before a part with what the part prints are what the whole schedule prints. Assumes nothing.
use Rattle.std.proofs.Common.{◌≡◌, ℕ, zero, suc, ◌+◌, ◌*◌, ◌<◌, ◌≤◌, Option, Some, None, Result, Ok, Err, List, [], ◌++◌, refl, ap, sym, ◌∙◌, append_assoc, append-nil, arith, length}
use native.Mathlib.Nat.{not-suc-le-zero}
use borrow.Author.Tests.{le-leb, lt-leb}
use Rattle.model.specs.declared.Line.{Line}
use Rattle.model.specs.declared.NotALine.{NotALine}
use Rattle.model.specs.Schedule.{next_call}
use Rattle.schedule.proofs.SizeLaws.{rest_shorter}
use Rattle.driver.specs.Playing.{Host, first_host, bad_text, long_text, transcript, played, played_answer, played_in, turn}
use Rattle.driver.specs.Store.{Turned}

-- Two ways to go on that agree after a line.
answer_later : (a : Result (Option Line) NotALine) (h : Host) (f g : Host → List ℕ) → ((line : Line) → a ≡ Ok (Some line) → f (turn line h).host ≡ g (turn line h).host)
    → played_answer a h f ≡ played_answer a h g
answer_later (Ok None) h f g e = refl
answer_later (Ok (Some line)) h f g e = ap (λ (x : List ℕ). (turn line h).text ++ x) (e line refl)
answer_later (Err no_line) h f g e = refl

-- More turns than the part has bytes change nothing.
turns_enough : (a b : ℕ) (h : Host) (s : List ℕ) → length s < a → length s < b → played_in a h s ≡ played_in b h s
unfolding played_in
turns_enough zero b h s p q = absurd (not-suc-le-zero p)
turns_enough (suc a) zero h s p q = absurd (not-suc-le-zero q)
turns_enough (suc a) (suc b) h s p q =
    answer_later (next_call s).answer h (λ g. played_in a g (next_call s).rest) (λ g. played_in b g (next_call s).rest)
    (λ line e.
    let less = rest_shorter s line e in
    turns_enough a b (turn line h).host (next_call s).rest (omega arith) (omega arith))

-- What a part prints: what its first line prints, and then what the rest does; nothing at the end; `bad` where there is no line.
pub played_on : (h : Host) (s : List ℕ) (line : Line) → (next_call s).answer ≡ Ok (Some line)
    → played h s ≡ (turn line h).text ++ played (turn line h).host (next_call s).rest
unfolding played played_in
played_on h s line e =
    let less = rest_shorter s line e in
    rw e
    (ap (λ (x : List ℕ). (turn line h).text ++ x)
    (turns_enough (length s) (suc (length (next_call s).rest)) (turn line h).host (next_call s).rest (omega arith) (omega arith)))

pub played_end : (h : Host) (s : List ℕ) → (next_call s).answer ≡ Ok None → played h s ≡ []
unfolding played played_in
played_end h s e = rw e refl

pub played_bad : (h : Host) (s : List ℕ) (d : NotALine) → (next_call s).answer ≡ Err d → played h s ≡ bad_text
unfolding played played_in
played_bad h s d e = rw e refl

-- What holds before each line: the buffer has the lines so far, and room for the rest.
pub record Playing (s : List ℕ) (capacity : ℕ) (h : Host) (out part : List ℕ) : Type 0 where
  pub room : 13 * length part + 50 + length out ≤ capacity
  pub so_far : played first_host s ≡ out ++ played h part

pub begins : (s : List ℕ) (capacity : ℕ) (h : Host) (out : List ℕ) → h ≡ first_host → out ≡ [] → 13 * length s + 50 ≤ capacity → Playing s capacity h out s
begins s capacity h out eh eo r = rw (eh, eo) (record { room = omega arith; so_far = refl })

module _ (s : List ℕ) (capacity : ℕ) (h : Host) (out part : List ℕ) (now : Playing s capacity h out part)
    (answer : Result (Option Line) NotALine) (reads : answer ≡ (next_call part).answer) where
  -- The schedule's end, and a bad line.
  pub ends : answer ≡ Ok None → out ≡ played first_host s
  ends e = sym (now.so_far ∙ ap (λ (x : List ℕ). out ++ x) (played_end h part (sym reads ∙ e)) ∙ append-nil out)

  pub stops : (d : NotALine) (out' : List ℕ) → answer ≡ Err d → out' ≡ out ++ bad_text → out' ≡ played first_host s
  stops d out' e f = f ∙ ap (λ (x : List ℕ). out ++ x) (sym (played_bad h part d (sym reads ∙ e))) ∙ sym now.so_far

  -- A line that was performed and printed.
  module _ (line : Line) (goes : answer ≡ Ok (Some line)) (h' : Host) (out' : List ℕ) (turned : Turned (turn line h) out out' h') (later : List ℕ)
      (r : later ≡ (next_call part).rest) where
    pub goes_on : Playing s capacity h' out' later
    goes_on = record {
      room = omega (arith, now.room, turned.short, rest_shorter part line (sym reads ∙ goes), ap length r);
      so_far =
          now.so_far
          ∙ ap (λ (x : List ℕ). out ++ x) (played_on h part line (sym reads ∙ goes))
          ∙ sym (append_assoc out (turn line h).text (played (turn line h).host (next_call part).rest))
          ∙ (λ j. sym turned.text_is j ++ played (sym turned.host_is j) (sym r j));
    }

    pub rest_less : length later < length part
    rest_less = omega (arith, rest_shorter part line (sym reads ∙ goes), ap length r)

-- What gaterun prints for an input that is not too long, and for one that is.
pub prints_played : (s after : List ℕ) → length s ≤ 65536 → after ≡ played first_host s → after ≡ transcript s
unfolding transcript
prints_played s after h e = rw (le-leb (length s) 65536 h) e

pub prints_long : (s after : List ℕ) → 65536 < length s → after ≡ long_text → after ≡ transcript s
unfolding transcript
prints_long s after h e = rw (lt-leb (length s) 65536 h) e
