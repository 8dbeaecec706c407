-- Decimal notation. Assumes nothing.
use Rattle.std.proofs.Common.{◌≡◌, ℕ, zero, suc, ◌+◌, ◌^◌, ◌/◌, ◌%◌, ◌≤◌, ◌<◌, List, [], ◌∷◌, ◌++◌, ap, arith, append_assoc, length, length-append}
use native.Mathlib.Nat.{div-lt_self, pow-suc, not-suc-le-zero}
use borrow.Author.Tests.{lt-ltb, le-ltb}
use Rattle.transcript.specs.Buffer.{Wrote}
use Rattle.transcript.specs.Lines.{decimal_in, decimal}
use Rattle.model.proofs.Logic.{by_lt}

-- A number of one digit.
pub decimal_one : (n : ℕ) → n < 10 → decimal n ≡ (48 + n) ∷ []
unfolding decimal decimal_in
decimal_one n h = rw (lt-ltb n 10 h)

-- More turns than the number counts change nothing.
turns_enough : (i j n : ℕ) → n < i → n < j → decimal_in i n ≡ decimal_in j n
unfolding decimal_in
turns_enough zero j n h k = absurd (not-suc-le-zero h)
turns_enough (suc i) zero n h k = absurd (not-suc-le-zero k)
turns_enough (suc i) (suc j) n h k =
    by_lt n 10
    (λ l. rw (lt-ltb n 10 l))
    (λ g.
    let less : n / 10 < n = div-lt_self (omega arith) (omega arith) in
    rw (le-ltb n 10 g) (ap (λ (x : List ℕ). x ++ ((48 + n % 10) ∷ [])) (turns_enough i j (n / 10) (omega arith) (omega arith))))

-- A longer number: what stands before its last digit is the quotient by ten.
pub decimal_more : (n : ℕ) → 10 ≤ n → decimal n ≡ decimal (n / 10) ++ ((48 + n % 10) ∷ [])
unfolding decimal decimal_in
decimal_more n h =
    let less : n / 10 < n = div-lt_self (omega arith) (omega arith) in
    rw (le-ltb n 10 h) (ap (λ (x : List ℕ). x ++ ((48 + n % 10) ∷ [])) (turns_enough n (suc (n / 10)) (n / 10) less (omega arith)))

-- A number below a power of ten has at most as many digits.
decimal_size : (k n : ℕ) → n < 10 ^ suc k → length (decimal n) ≤ suc k
decimal_size zero n h = omega (arith, ap length (decimal_one n h))
decimal_size (suc k) n h =
    by_lt n 10
    (λ l. omega (arith, ap length (decimal_one n l)))
    (λ g.
    let front : n / 10 < 10 ^ suc k = omega (arith, pow-suc 10 (suc k)) in
    omega (arith, ap length (decimal_more n g), length-append (decimal (n / 10)) ((48 + n % 10) ∷ []), decimal_size k (n / 10) front))

decimal_short : (n : ℕ) → n < 65536 → length (decimal n) ≤ 5
decimal_short n h = decimal_size 4 n (omega arith)

-- A longer number in a buffer: there is room for the last digit after what stands before it, and it completes the number.
pub front_room : (n : ℕ) (x y : List ℕ) → 10 ≤ n → n < 65536 → y ≡ x ++ decimal (n / 10) → length y < length x + 5
front_room n x y h f e =
    omega (arith, ap length e, length-append x (decimal (n / 10)), ap length (decimal_more n h), length-append (decimal (n / 10)) ((48 + n % 10) ∷ []), decimal_short n f)

pub wrote_more : (n : ℕ) (x y z : List ℕ) → n < 65536 → 10 ≤ n → y ≡ x ++ decimal (n / 10) → z ≡ y ++ ((48 + n % 10) ∷ []) → Wrote 5 (decimal n) x z
wrote_more n x y z f h e g =
    let bytes : z ≡ x ++ decimal n = rw (decimal_more n h, g, e) (append_assoc x (decimal (n / 10)) ((48 + n % 10) ∷ [])) in
    record { bytes = bytes; short = omega (arith, ap length bytes, length-append x (decimal n), decimal_short n f) }
