-- How long a line is, and that the rest of a part is shorter. Assumes nothing.
use Rattle.std.proofs.Common.{◌≡◌, ℕ, ◌+◌, ◌<◌, ◌≤◌, ◌&&◌, true, Option, Some, None, Ok, List, [], ◌∷◌, refl, arith, drop, length, length-drop}
use Rattle.std.proofs.lemmas.Option.{none-some, some_pair_parts}
use lib.Dec.{eqb, leb}
use lib.ListN.{get_or-eq_default}
use borrow.Author.Tests.{eqb-true, leb-true}
use Rattle.model.specs.declared.Line.{Line}
use Rattle.model.specs.Schedule.{Reading, byte_at, space, line_feed, digits, starts_number, sized, read_call, read_open, read_line, after_line, next_call}
use Rattle.model.proofs.Logic.{and_l, and_r, by_bool, by_lt}

-- A byte that is not 0 stands inside its text.
inside : (s : List ℕ) (i b : ℕ) → byte_at s i ≡ b → 0 < b → i < length s
inside s i b e h =
    by_lt i (length s)
    (λ k. k)
    (λ k. absurd (omega (arith, e, get_or-eq_default s 0 {n = i} k)))

-- A number has a digit.
some_digit : (s : List ℕ) → starts_number s ≡ true → 1 ≤ digits s
unfolding starts_number
some_digit s e = leb-true 1 (digits s) (and_l (leb 1 (digits s)) _ (and_l (leb 1 (digits s) && leb (digits s) 4) _ e))

-- A line has at least 4 bytes, and no more than the part.
pub record Sized (s : List ℕ) (size : ℕ) : Type 0 where
  pub four : 4 ≤ size
  pub within : size ≤ length s

sized_size : (o : Option Line) (n : ℕ) (line : Line) (size : ℕ) → sized o n ≡ Some (line, size) → n ≡ size
sized_size None n line size e = absurd (none-some _ e)
sized_size (Some l) n line size e = (some_pair_parts l line n size e).1

call_sized : (s : List ℕ) (line : Line) (size : ℕ) → read_call s ≡ Some (line, size) → Sized s size
unfolding read_call
call_sized s line size e =
    let p = drop 2 s in
    let spaced = eqb (byte_at s 1) space in
    let ended = eqb (byte_at p (digits p)) line_feed in
    by_bool (spaced && starts_number p && ended)
    (λ t.
    let some = some_digit p (and_r spaced (starts_number p) (and_l (spaced && starts_number p) ended t)) in
    let feed = eqb-true (byte_at p (digits p)) line_feed (and_r (spaced && starts_number p) ended t) in
    let in_part = inside p (digits p) line_feed feed (omega arith) in
    let n = sized_size _ (3 + digits p) line size (rw t at e) in
    record { four = omega (arith, n); within = omega (arith, n, length-drop 2 s) })
    (λ t. absurd (none-some _ (rw t at e)))

open_sized : (s : List ℕ) (line : Line) (size : ℕ) → read_open s ≡ Some (line, size) → Sized s size
unfolding read_open
open_sized s line size e =
    let n = drop 2 s in
    let k = drop (3 + digits n) s in
    let first = eqb (byte_at s 1) space && starts_number n in
    let second = first && eqb (byte_at n (digits n)) space in
    let third = second && starts_number k in
    by_bool (third && eqb (byte_at k (digits k)) line_feed)
    (λ t.
    let feed = eqb-true (byte_at k (digits k)) line_feed (and_r third (eqb (byte_at k (digits k)) line_feed) t) in
    let in_part = inside k (digits k) line_feed feed (omega arith) in
    let m = (some_pair_parts _ line (4 + digits n + digits k) size (rw t at e)).1 in
    record { four = omega (arith, m); within = omega (arith, m, length-drop (3 + digits n) s) })
    (λ t. absurd (none-some _ (rw t at e)))

line_sized : (s : List ℕ) (line : Line) (size : ℕ) → read_line s ≡ Some (line, size) → Sized s size
unfolding read_line
line_sized s line size e =
    by_bool (eqb (byte_at s 0) 79)
    (λ t. open_sized s line size (rw t at e))
    (λ t. call_sized s line size (rw t at e))

-- After a line the rest is shorter by at least 4 bytes.
after_shorter : (r : Reading) (s : List ℕ) (line : Line) → ((l : Line) (size : ℕ) → r ≡ Some (l, size) → Sized s size) → (after_line r s).answer ≡ Ok (Some line)
    → length (after_line r s).rest + 4 ≤ length s
after_shorter None s line f e = absurd (cc)
after_shorter (Some (l, size)) s line f e =
    let w = f l size refl in
    omega (arith, w.four, w.within, length-drop size s)

pub rest_shorter : (s : List ℕ) (line : Line) → (next_call s).answer ≡ Ok (Some line) → length (next_call s).rest + 4 ≤ length s
unfolding next_call
rest_shorter [] line e = absurd (cc)
rest_shorter (b ∷ s) line e = after_shorter (read_line (b ∷ s)) (b ∷ s) line (line_sized (b ∷ s)) e
