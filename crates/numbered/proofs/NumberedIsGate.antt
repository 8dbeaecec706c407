-- The numbered gate answers as the plain queue and so as the 1989 gate, and the 1989 values are the numbers' remainders by M: `numbered_is_gate`,
-- `until_first_eleven`.
use Prim.Native.Nat.{ℕ, ◌%◌, ◌<◌}
use mathlib.Core.Path.{◌≡◌, refl, sym, ap, ap₂, ◌∙◌}
use mathlib.Core.Bool.{true}
use mathlib.Core.List.{List, [], ◌∷◌, map}
use native.Mathlib.Nat.{mod-eq_of_lt, zero-mod}
use native.Mathlib.Omega.{arith}
use lib.ListN.{replicate}
use lib.Dec.{eqb}
use lib.LanesLaws.{map-replicate}
use Rattle.model.specs.declared.Record.{Record}
use Rattle.numbered.specs.declared.NumberedGate.{NumberedGate}
use Rattle.numbered.specs.declared.NumberedRecord.{NumberedRecord}
use Rattle.model.specs.Lists.{all}
use Rattle.model.specs.Steps.{block, val, year_block}
use Rattle.model.specs.Calls.{Step, idle_record, step}
use Rattle.model.specs.Opening.{opened}
use Rattle.model.specs.Queue.{empty_queue}
use Rattle.model.proofs.Year1989.{fits_1989}
use Rattle.model.proofs.GateIsQueue.{gate_is_queue, trace_same_in}
use Rattle.model.proofs.Logic.{and_i, by_bool, not_not}
use Rattle.numbered.specs.Calls.{call_numbered, idle_numbered, opened_numbered, shown_numbered}
use Rattle.numbered.specs.Claim.{NumberedIsGate, UntilFirstEleven, before_eleven, no_eleven, numbered_trace}
use Rattle.numbered.proofs.Endless.{wide, wide_list}
use Rattle.numbered.proofs.WideCalls.{gate_opens, open_wide, trace_wide}
use Rattle.numbered.proofs.Remainders.{Values, remainders, run_values, values_of}

-- The openings: 0 and k are below M, and every ticket is 0.
open_values : (n k : ℕ) → values_of (opened 1989 n k).gate (opened 1989 n k).list ≡ remainders (block n k).size (opened_numbered n k).gate (opened_numbered n k).list
unfolding year_block block
open_values n k =
    let m = (block n k).size in
    let i : val (opened 1989 n k).gate.issue ≡ (opened_numbered n k).gate.issue = omega arith in
    let v : val (opened 1989 n k).gate.valid ≡ (opened_numbered n k).gate.valid = omega arith in
    let k-in : (opened_numbered n k).gate.valid < m = omega (arith, (fits_1989 n k).above_k) in
    ap₂ (λ (x y : ℕ). record { issue = x; valid = y; tickets = map (λ r. r.value.0) (replicate n idle_record) })
    (i ∙ sym (zero-mod m)) (v ∙ sym (mod-eq_of_lt k-in))
    ∙ ap (λ (ts : List ℕ). record { issue = (opened_numbered n k).gate.issue % m; valid = (opened_numbered n k).gate.valid % m; tickets = ts })
    (map-replicate (λ (r : Record). r.value.0) n idle_record
    ∙ ap (replicate n) (sym (zero-mod m))
    ∙ sym (map-replicate (λ (r : NumberedRecord). r.ticket % m) n idle_numbered))

pub numbered_is_gate : NumberedIsGate
unfolding year_block block
numbered_is_gate n k e s h =
    let r = open_wide n k e in
    let q =
    trace_wide (opened_numbered n k).gate (opened_numbered n k).list (empty_queue n k) r s h
    ∙ trace_same_in (wide (opened_numbered n k).gate) (wide_list (opened_numbered n k).list) (empty_queue n k) r s in
    let t = q ∙ sym (gate_is_queue 1989 n k (gate_opens n k e) s).as_queue in
    let v =
    run_values (block n k) refl (opened 1989 n k).gate (opened 1989 n k).list refl (opened_numbered n k).gate (opened_numbered n k).list (open_values n k) s t in
    record {
      as_gate = t;
      as_queue = q;
      issue_is = ap (λ (x : Values). x.issue) v;
      valid_is = ap (λ (x : Values). x.valid) v;
      tickets_are = ap (λ (x : Values). x.tickets) v;
    }

-- Before the first 11 there is none.
none_before : (g : NumberedGate) (l : List NumberedRecord) (s : List Step) → no_eleven (numbered_trace g l (before_eleven g l s)) ≡ true
unfolding before_eleven numbered_trace all
none_before g l [] = refl
none_before g l (step c p ∷ s) =
    let o = call_numbered c g l p in
    by_bool (eqb (shown_numbered o.answer).number 11)
    (λ e. rw e refl)
    (λ e. rw e (and_i _ _ (not_not _ e) (none_before o.gate o.list s)))

pub until_first_eleven : UntilFirstEleven
until_first_eleven n k e s = numbered_is_gate n k e _ (none_before (opened_numbered n k).gate (opened_numbered n k).list s)
