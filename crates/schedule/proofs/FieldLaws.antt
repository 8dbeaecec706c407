-- Digits and numbers, for the functions of `field`. Assumes nothing.
use Rattle.std.proofs.Common.{Iter, ◌≡◌, ℕ, zero, suc, ◌+◌, ◌*◌, ◌-◌, ◌<◌, ◌≤◌, ◌^◌, ◌&&◌, List, [], ◌∷◌, ◌++◌, refl, ap, sym, ◌∙◌, arith, length, drop, take, take_all, length-append, length-drop, length-take-le}
use mathlib.Core.List.{map}
use Rattle.std.specs.Borrow.{Bor}
use Rattle.std.specs.Iterator.{Yields}
use Rattle.std.proofs.lemmas.Fn.{fronts}
use Rattle.std.specs.List.{fold, prefix_len}
use Rattle.std.proofs.lemmas.List.Folds.{length-prefix_len}
use Rattle.std.proofs.Math.Nat.{pow-le-pow_right, pow-suc}
use lib.Dec.{eqb, leb}
use native.Mathlib.Numerals.{add-one}
use Rattle.model.proofs.Logic.{and_l, and_r, by_bool}
use borrow.Author.Tests.{leb-true}
use Rattle.model.specs.Lists.{implies}
use Rattle.model.specs.Schedule.{byte_at, is_digit, digits, number_from, number, starts_number}

digits_prefix : (s : List ℕ) → digits s ≡ prefix_len is_digit s
unfolding digits
digits_prefix [] = refl
digits_prefix (b ∷ s) = grind (arith, digits_prefix s)

-- The digits that a text begins with, as std counts them.
pub digits_counted : (s : List ℕ) → length (take (prefix_len is_digit s) s) ≡ digits s
digits_counted s = rw (digits_prefix s) (length-prefix_len is_digit s)

-- A text has the digits that it begins with.
pub digits_within : (s : List ℕ) → digits s ≤ length s
unfolding digits
digits_within [] = omega arith
digits_within (b ∷ s) = grind (arith, digits_within s)

-- They alone are a text that has no other bytes.
pub digits_alone : (s : List ℕ) → digits (take (digits s) s) ≡ digits s
unfolding digits
digits_alone [] = refl
digits_alone (b ∷ s) = grind (arith, digits_alone s)

pub all_digits : (s : List ℕ) → digits s ≡ length s → number_from 0 s ≡ number s
all_digits s e = ap (number_from 0) (sym (take_all (digits s) s (omega arith)))

-- The digits of a text are the digits of its parts.
digits_apart : (xs ys : List ℕ) → digits (xs ++ ys) ≡ length (xs ++ ys) → (digits xs ≡ length xs) × (digits ys ≡ length ys)
unfolding digits
digits_apart [] ys e = (refl, e)
digits_apart (b ∷ xs) ys e =
    by_bool (is_digit b)
    (λ d. let parts = digits_apart xs ys (omega (arith, rw d at e)) in (rw d (ap suc parts.0), parts.1))
    (λ d. absurd (omega (arith, rw d at e)))

first_digit : (b : ℕ) (s : List ℕ) → digits (b ∷ s) ≡ length (b ∷ s) → (48 ≤ b) × (b ≤ 57)
unfolding digits
first_digit b s e = by_bool (is_digit b)
    (λ d. (leb-true 48 b (and_l (leb 48 b) (leb b 57) d), leb-true b 57 (and_r (leb 48 b) (leb b 57) d)))
    (λ d. absurd (omega (arith, rw d at e)))

-- What digits say has at most as many digits.
pub record Below (xs : List ℕ) (n : ℕ) : Type 0 where
  pub below : digits xs ≡ length xs → n < 10 ^ length xs

pub none_below : Below [] 0
none_below = record { below = λ e. omega arith }

pub one_digit_more : (xs : List ℕ) (b n : ℕ) → Below xs n → Below (xs ++ (b ∷ [])) (n * 10 + (b - 48))
one_digit_more xs b n h = record {
  below = λ e.
      let parts = digits_apart xs (b ∷ []) e in
      let digit = first_digit b [] parts.1 in
      let size = length-append xs (b ∷ []) in
      let less = h.below parts.0 in
      rw (size, add-one, pow-suc 10 (length xs)) (omega arith);
}

pub digit_fits : (s xs ys : List ℕ) (b n : ℕ) → s ≡ xs ++ (b ∷ ys) → digits s ≡ length s → length s ≤ 4 → Below xs n → (48 ≤ b) × (n < 1000)
digit_fits s xs ys b n e d h less =
    let parts = digits_apart xs (b ∷ ys) (sym (ap digits e) ∙ d ∙ ap length e) in
    let size = length-append xs (b ∷ ys) in
    let count : length xs < 4 = omega (arith, ap length e) in
    let most : 10 ^ length xs ≤ 10 ^ 3 = pow-le-pow_right (omega arith) {j = 3} (omega arith) in
    ((first_digit b ys parts.1).0, omega (arith, less.below parts.0))

-- Calls of an iterator over a text gave its first bytes, and the rest is to come.
pub yielded : (s t : Iter ℕ) (xs : List (Bor ℕ)) → Yields fronts s xs t → s.rest.now ≡ map (λ x. x.now) xs ++ t.rest.now
yielded s t [] e = ap (λ i. i.rest.now) e
yielded s t (x ∷ xs) (j, step, run) = step ∙ ap (λ l. x.now ∷ l) (yielded j t xs run)

-- The number that digits say, as a fold.
pub fold_number : (n : ℕ) (s : List ℕ) → fold (λ m b. m * 10 + (b - 48)) n s ≡ number_from n s
unfolding number_from
fold_number n [] = refl
fold_number n (b ∷ s) = fold_number (n * 10 + (b - 48)) s

-- The part `&s[size..]` has the bytes after the first `size`.
pub part_from : (s : List ℕ) (size : ℕ) → take (length s - size) (drop size s) ≡ drop size s
part_from s size = take_all (length s - size) (drop size s) (omega (arith, length-drop size s))

pub number_alone : (s : List ℕ) → number (take (digits s) s) ≡ number s
number_alone s = rw digits_alone (ap (number_from 0) (take_all (digits s) (take (digits s) s) (omega (arith, length-take-le (digits s) s (digits_within s)))))

pub length_alone : (s : List ℕ) → length (take (digits s) s) ≡ digits s
length_alone s = length-take-le (digits s) s (digits_within s)

-- They alone are a number where the text begins with one: that asks of their count and of the first of them.
first_alone : (n : ℕ) (s : List ℕ)
    → (leb 1 n && leb n 4 && implies (eqb (byte_at (take n s) 0) 48) (eqb n 1)) ≡ (leb 1 n && leb n 4 && implies (eqb (byte_at s 0) 48) (eqb n 1))
first_alone zero s = refl
first_alone (suc n) [] = refl
first_alone (suc n) (b ∷ s) = refl

pub starts_alone : (s : List ℕ) → starts_number (take (digits s) s) ≡ starts_number s
unfolding starts_number
starts_alone s = rw digits_alone (first_alone (digits s) s)
