-- The words of no gate are the default ones.
use Rattle.std.proofs.Common.{ℕ, ◌≡◌, ◌∙◌, ◌<◌, List, arith, replicate, sym}
use Rattle.std.specs.Array.{AllOfLen}
use Rattle.std.proofs.lemmas.Grind.{same_number_lists}
use Rattle.std.proofs.lemmas.List.{get_or-replicate, length-replicate}
use Rattle.model.specs.declared.Gate.{Gate}
use Rattle.model.specs.declared.Ticket.{Ticket}
use Rattle.model.specs.Opening.{no_gate}
use Rattle.model.specs.Steps.{ticket}

zeros : (xs : List ℕ) (n : ℕ) → AllOfLen (λ (x : ℕ). x ≡ 0) xs n → xs ≡ replicate n 0
zeros xs n all =
    same_number_lists xs (replicate n 0) (all.long ∙ sym (length-replicate n 0))
    (λ k h. let within : k < n = omega (arith, all.long) in all.at k 0 within ∙ sym (get_or-replicate n k 0 0 within))

same_ticket : (t : Ticket) → t.value.0 ≡ 0 → t.colour.0 ≡ 0 → t ≡ ticket 0 0
same_ticket t v c = let e : ticket t.value.0 t.colour.0 ≡ ticket 0 0 = rw (v, c) in e

-- What the derived default of a gate ensures.
abbrev pub IsDefault : Gate → Type 0
IsDefault g =
    (g.year ≡ 0)
    × ((g.n ≡ 0)
    × ((g.k ≡ 0)
    × (((g.issue.value.0 ≡ 0) × (g.issue.colour.0 ≡ 0))
    × (((g.valid.value.0 ≡ 0) × (g.valid.colour.0 ≡ 0)) × (AllOfLen (λ (x : ℕ). x ≡ 0) g.counts 65 × AllOfLen (λ (x : ℕ). x ≡ 0) g.free 64)))))

same_words : (g : Gate) → g.year ≡ 0 → g.n ≡ 0 → g.k ≡ 0 → g.issue ≡ ticket 0 0 → g.valid ≡ ticket 0 0 → g.counts ≡ replicate 65 0 → g.free ≡ replicate 64 0
    → g ≡ no_gate
same_words g y n k i v c f =
    let e : record { year = g.year; n = g.n; k = g.k; issue = g.issue; valid = g.valid; counts = g.counts; free = g.free } ≡ no_gate = rw (y, n, k, i, v, c, f) in e

pub default_words : (g : Gate) → IsDefault g → g ≡ no_gate
default_words g d =
    same_words g d.0 d.1.0 d.1.1.0 (same_ticket g.issue d.1.1.1.0.0 d.1.1.1.0.1) (same_ticket g.valid d.1.1.1.1.0.0 d.1.1.1.1.0.1)
    (zeros g.counts 65 d.1.1.1.1.1.0) (zeros g.free 64 d.1.1.1.1.1.1)
