-- A list of calls on lent slices is that list of calls on the records that they hold.
--
-- Main statements: `after_keeps` (calls keep the words N and k, the year and the list's length), `lent_runs`.
use Prim.Native.Nat.{ℕ}
use mathlib.Core.Path.{ap, refl, sym, ◌∙◌, ◌≡◌}
use mathlib.Core.List.{List, [], ◌∷◌}
use lib.ListN.{length}
use Rattle.model.specs.declared.Call.{Call}
use Rattle.model.specs.declared.Gate.{Gate}
use Rattle.model.specs.declared.Record.{Record}
use Rattle.model.specs.Calls.{Step, after, call, step}
use Rattle.model.specs.Refusals.{Answered}
use Rattle.model.specs.Slices.{LentOutcome, call_lent, lent_of, on_slices}
use Rattle.replay.specs.Replay.{gate_answers}
use Rattle.replay.specs.Running.{lent_after, lent_answers}
use Rattle.model.proofs.OneStep.{SizesKept, sizes_kept}
use Rattle.model.proofs.SliceLaws.{lent_length, records_lent}

-- What no call changes no list of calls changes.
pub after_keeps : (g : Gate) (l : List Record) (s : List Step) → SizesKept g l (after g l s)
unfolding after
after_keeps g l [] = record { n_kept = refl; k_kept = refl; year_kept = refl; list_kept = refl }
after_keeps g l (step c p ∷ s) =
    let a = sizes_kept g l p c in
    let b = after_keeps (call c g l p).gate (call c g l p).list s in
    record { n_kept = b.n_kept ∙ a.n_kept; k_kept = b.k_kept ∙ a.k_kept; year_kept = b.year_kept ∙ a.year_kept; list_kept = b.list_kept ∙ a.list_kept }

-- One call on the slices of a list of N records.
lent_call : (c : Call) (g : Gate) (l : List Record) (p : ℕ) → length l ≡ g.n → call_lent c g (lent_of l) p ≡ on_slices (call c g l p)
unfolding call_lent
lent_call c g l p e = rw (lent_length l g.n e) (ap (λ (x : List Record). on_slices (call c g x p)) (records_lent l))

-- A list of calls on them.
pub record LentRun (g : Gate) (l : List Record) (s : List Step) : Type 0 where
  pub gate_is : (lent_after g (lent_of l) s).gate ≡ (after g l s).gate
  pub slices_are : (lent_after g (lent_of l) s).slices ≡ lent_of (after g l s).list
  pub answers_are : lent_answers g (lent_of l) s ≡ gate_answers g l s

pub lent_runs : (g : Gate) (l : List Record) (s : List Step) → length l ≡ g.n → LentRun g l s
unfolding lent_after lent_answers after gate_answers
lent_runs g l [] e = record { gate_is = refl; slices_are = refl; answers_are = refl }
lent_runs g l (step c p ∷ s) e =
    let k = sizes_kept g l p c in
    let o = lent_call c g l p e in
    let r = lent_runs (call c g l p).gate (call c g l p).list s (k.list_kept ∙ e ∙ sym k.n_kept) in
    record {
      gate_is = ap (λ (x : LentOutcome). (lent_after x.gate x.slices s).gate) o ∙ r.gate_is;
      slices_are = ap (λ (x : LentOutcome). (lent_after x.gate x.slices s).slices) o ∙ r.slices_are;
      answers_are =
          ap (λ (x : LentOutcome). x.answer ∷ lent_answers x.gate x.slices s) o
          ∙ ap (λ (t : List Answered). (call c g l p).answer ∷ t) r.answers_are;
    }
