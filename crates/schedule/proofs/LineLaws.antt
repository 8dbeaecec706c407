-- Lines, for the functions of `line`: the line that is read field by field is the grammar's. Assumes nothing.
use Rattle.std.proofs.Common.{◌≡◌, ℕ, suc, ◌+◌, ◌-◌, ◌<◌, ◌≤◌, ◌&&◌, Option, Some, None, Result, Ok, Err, List, [], ◌∷◌, refl, sym, ap, ◌∙◌, arith, drop, length, take, take_all}
use lib.Seq.{get_or-drop, drop-drop}
use lib.Dec.{eqb}
use borrow.Author.Tests.{eq-eqb, ne_eqb}
use Rattle.std.proofs.lemmas.Option.{some_pair_parts}
use Rattle.model.specs.declared.Call.{Call}
use Rattle.model.specs.declared.Line.{Line}
use Rattle.model.specs.declared.Line.TheVariants.{Open, Plugin}
use Rattle.model.specs.declared.Refusal.{Refusal}
use Rattle.model.specs.Letters.{is_letter, letter_call, named_call}
use Rattle.model.specs.Schedule.{Reading, byte_at, space, line_feed, digits, number, starts_number, call_line, read_call, read_open, read_line, after_line, next_call}
use Rattle.schedule.specs.Field.{field_of, number_read}
use Rattle.schedule.specs.Reading.{ended, call_read, line_after, line_read, open_read}
use Rattle.model.proofs.Logic.{by_bool}

-- After the first `n` bytes of a text: its next byte, and what follows that.
byte_after : (s : List ℕ) (n : ℕ) → byte_at s n ≡ byte_at (drop n s) 0
byte_after s n =
    let place : n ≡ n + 0 = omega arith in
    ap (λ (i : ℕ). byte_at s i) place ∙ sym (get_or-drop n s 0 0)

drop_after : (s : List ℕ) (n : ℕ) → drop (suc n) s ≡ drop 1 (drop n s)
drop_after s n =
    let size : suc n ≡ n + 1 = omega arith in
    rw size (sym (drop-drop 1 n s))

-- A call's line.
call_same : (c : Call) (b : ℕ) (s : List ℕ) → ((p : ℕ) → call_line b p ≡ Some (Plugin c p)) → line_after (read_call (b ∷ s)) (b ∷ s) ≡ call_read c s
unfolding read_call ended call_read field_of number_read
call_same c b [] names = refl
call_same c b (x ∷ t) names =
    let u = drop (digits t) t in
    let size : 3 + digits t ≡ suc (suc (suc (digits t))) = omega arith in
    by_bool (eqb x space)
    (λ e. by_bool (starts_number t)
    (λ f. rw (e, f, names (number t), byte_after t (digits t))
    (by_bool (eqb (byte_at u 0) line_feed) (λ g. rw (g, size) (ap (λ (r : List ℕ). Some (Plugin c (number t), r)) (drop_after t (digits t)))) (λ g. rw g refl)))
    (λ f. rw (e, f) refl))
    (λ e. rw e refl)

-- An open's line.
open_same : (b : ℕ) (s : List ℕ) → line_after (read_open (b ∷ s)) (b ∷ s) ≡ open_read s
unfolding read_open ended open_read field_of number_read
open_same b [] = refl
open_same b (x ∷ t) =
    let k = drop 1 (drop (digits t) t) in
    let size : 3 + digits t ≡ suc (suc (suc (digits t))) = omega arith in
    let both : 4 + digits t + digits k ≡ suc (suc (suc (suc (digits t) + digits k))) = omega arith in
    let second : drop (3 + digits t) (b ∷ x ∷ t) ≡ k = rw size (drop_after t (digits t)) in
    let last : drop (4 + digits t + digits k) (b ∷ x ∷ t) ≡ drop 1 (drop (digits k) k) =
    rw both
    (drop_after t (suc (digits t) + digits k)
    ∙ ap (λ (r : List ℕ). drop 1 r) (sym (drop-drop (digits k) (suc (digits t)) t) ∙ ap (λ (r : List ℕ). drop (digits k) r) (drop_after t (digits t)))) in
    by_bool (eqb x space)
    (λ e. by_bool (starts_number t)
    (λ f. rw (e, f, byte_after t (digits t), second)
    (by_bool (eqb (byte_at (drop (digits t) t) 0) space)
    (λ g. rw g
    (by_bool (starts_number k)
    (λ h. rw (h, byte_after k (digits k))
    (by_bool (eqb (byte_at (drop (digits k) k) 0) line_feed)
    (λ i. rw i (ap (λ (r : List ℕ). Some (Open (number t) (number k), r)) last)) (λ i. rw i refl)))
    (λ h. rw h refl)))
    (λ g. rw g refl)))
    (λ f. rw (e, f) refl))
    (λ e. rw e refl)

-- The bytes after the first.
tail_part : (b : ℕ) (s : List ℕ) → take (length (b ∷ s) - 1) s ≡ s
tail_part b s = take_all (length (b ∷ s) - 1) s (omega arith)

-- A line, by its first byte.
pub line_open : (s : List ℕ) → 1 ≤ length s → byte_at s 0 ≡ 79 → open_read (take (length s - 1) (drop 1 s)) ≡ line_read s
unfolding read_line
line_open [] h e = absurd (omega arith)
line_open (b ∷ s) h e = rw (tail_part b s, eq-eqb b 79 e) (sym (open_same b s))

-- The line of the call that a letter names, and none where it names none.
abbrev named_line : Result Call Refusal → ℕ → Option Line
named_line (Ok c) p = Some (Plugin c p)
named_line (Err d) p = None

letter_line : (x p : ℕ) → call_line x p ≡ named_line (named_call x) p
unfolding is_letter letter_call call_line
letter_line x p =
    by_bool (eqb x 84) (λ e. rw e refl) (λ t.
    by_bool (eqb x 76) (λ e. rw (t, e) refl) (λ k.
    by_bool (eqb x 66) (λ e. rw (t, k, e) refl) (λ v.
    by_bool (eqb x 80) (λ e. rw (t, k, v, e) refl) (λ q.
    by_bool (eqb x 83) (λ e. rw (t, k, v, q, e) refl) (λ d.
    by_bool (eqb x 87) (λ e. rw (t, k, v, q, d, e) refl) (λ w. rw (t, k, v, q, d, w) refl))))))

pub line_call : (s : List ℕ) (c : Call) → 1 ≤ length s → (byte_at s 0 ≡ 79 → ⊥) → named_call (byte_at s 0) ≡ Ok c → call_read c (take (length s - 1) (drop 1 s)) ≡ line_read s
unfolding read_line
line_call [] c h o e = absurd (omega arith)
line_call (b ∷ s) c h o e =
    rw (tail_part b s, ne_eqb b 79 o) (sym (call_same c b s (λ p. letter_line b p ∙ ap (λ (r : Result Call Refusal). named_line r p) e)))

pub line_none : (s : List ℕ) (d : Refusal) → 1 ≤ length s → (byte_at s 0 ≡ 79 → ⊥) → named_call (byte_at s 0) ≡ Err d → line_read s ≡ None
unfolding read_line read_call
line_none [] d h o e = absurd (omega arith)
line_none (b ∷ s) d h o e =
    let t = drop 1 s in
    let none : call_line b (number t) ≡ None = letter_line b (number t) ∙ ap (λ (r : Result Call Refusal). named_line r (number t)) e in
    rw (ne_eqb b 79 o, none)
    (by_bool (eqb (byte_at s 0) space && starts_number t && eqb (byte_at t (digits t)) line_feed) (λ f. rw f refl) (λ f. rw f refl))

pub line_past : (s : List ℕ) → length s < 1 → line_read s ≡ None
unfolding read_line read_call
line_past [] h = refl
line_past (b ∷ s) h = absurd (omega arith)

-- Next call, of an empty part and of any other.
pub next_end : (s : List ℕ) → length s ≡ 0 → next_call s ≡ record { answer = Ok None; rest = s }
unfolding next_call
next_end [] e = refl
next_end (b ∷ s) e = absurd (omega arith)

next_line : (s : List ℕ) → (length s ≡ 0 → ⊥) → next_call s ≡ after_line (read_line s) s
unfolding next_call
next_line [] n = absurd (n refl)
next_line (b ∷ s) n = refl

after_some : (r : Reading) (s : List ℕ) (line : Line) (rest : List ℕ) → line_after r s ≡ Some (line, rest) → after_line r s ≡ record { answer = Ok (Some line); rest = rest }
after_some None s line rest e = absurd (cc)
after_some (Some (l, size)) s line rest e =
    let parts = some_pair_parts l line (drop size s) rest e in
    λ j. record { answer = Ok (Some (parts.0 j)); rest = parts.1 j }

after_none : (r : Reading) (s : List ℕ) → line_after r s ≡ None → after_line r s ≡ record { answer = Err (record {}); rest = s }
after_none None s e = refl
after_none (Some l) s e = absurd (cc)

pub next_some : (s : List ℕ) (line : Line) (rest : List ℕ) → (length s ≡ 0 → ⊥) → line_read s ≡ Some (line, rest) → next_call s ≡ record { answer = Ok (Some line); rest = rest }
next_some s line rest n e = next_line s n ∙ after_some (read_line s) s line rest e

pub next_none : (s : List ℕ) → (length s ≡ 0 → ⊥) → line_read s ≡ None → next_call s ≡ record { answer = Err (record {}); rest = s }
next_none s n e = next_line s n ∙ after_none (read_line s) s e
