-- A plugin's place in the queue through calls (A.7): an accepted leave by another takes 1 from its position less k, never below 0, and no other
-- call changes it.
--
-- Main statements: `call_stays`, of one call; `run_stays`, of a list of calls without an accepted leave of the plugin.
use Prim.Native.Nat.{suc, ℕ, ◌+◌, ◌-◌, ◌<◌, ◌≤◌}
use mathlib.Core.Path.{ap, refl, sym, ◌∙◌, ◌≡◌}
use mathlib.Core.Bool.{Bool, false, not, true, ◌&&◌, ◌||◌}
use mathlib.Core.List.{List, [], ◌++◌, ◌∷◌}
use mathlib.Core.Logic.{◌≢◌}
use native.Mathlib.Nat.{not-suc-le-zero}
use native.Mathlib.Omega.{arith}
use lib.ListN.{length}
use lib.Dec.{eqb, ltb}
use borrow.Author.Tests.{eq-eqb, eqb-false, ne_eqb, not-false}
use Rattle.model.specs.declared.Call.{Call}
use Rattle.model.specs.declared.Call.TheVariants.{Leave, Look, Place, Stop, Take, Wake}
use Rattle.model.specs.declared.Gate.{Gate}
use Rattle.model.specs.declared.Record.{Record}
use Rattle.model.specs.Calls.{Step, call_in, record_of, step}
use Rattle.model.specs.Claim.{Entry, queue_after, queue_trace}
use Rattle.model.specs.Lists.{count, one_if}
use Rattle.model.specs.Queue.{Queue, Reply, gone, is_first, looked_at, mark_of, position, queue_call, queue_called, queue_refuse, region_of, took, waits_behind, without}
use Rattle.model.specs.Sound.{held}
use Rattle.model.specs.Steps.{Block}
use Rattle.model.specs.Turn.{is_leave}
use Rattle.model.proofs.Audit.{first_at}
use Rattle.model.proofs.Counting.{count_append}
use Rattle.model.proofs.Logic.{and_false, and_false_first, by_bool, by_eq, plugin_in}
use Rattle.model.proofs.OneStep.{one_step_in}
use Rattle.model.proofs.RecordTests.{held_i}
use Rattle.model.proofs.Relation.{RelatedIn, times}
use Rattle.model.proofs.RelationLaws.{first_valid_lem, reg_at}
use Rattle.model.proofs.Rows.{position_at, times_without}
use Rattle.model.proofs.Validity.{valid_is}

-- Positions in a row.
position_append : (p : ℕ) (row more : List ℕ) → 0 < times p row → position p (row ++ more) ≡ position p row
unfolding count position
position_append p [] more h = absurd (not-suc-le-zero h)
position_append p (y ∷ row) more h =
    by_eq y p
    (λ e. rw (eq-eqb y p e) refl)
    (λ e. rw (ne_eqb y p e) (ap suc (position_append p row more (omega (arith, ap one_if (ne_eqb y p e))))))

less_both : (k a : ℕ) → 1 ≤ k → suc a - k ≡ a - (k - 1)
less_both k a h = omega arith

one_down : (k a b : ℕ) → 1 ≤ k → a - (k - 1) ≡ b - (k - 1) - 1 → suc a - k ≡ suc b - k - 1
one_down k a b h e = less_both k a h ∙ e ∙ ap (λ (n : ℕ). n - 1) (sym (less_both k b h))

-- x, at position k at most, is taken out: all others' positions less k are 1 less.
position_without : (p x : ℕ) (row : List ℕ) (k : ℕ) → x ≢ p → 0 < times x row → position x row ≤ k → position p (without x row) - k ≡ position p row - k - 1
unfolding count position without
position_without p x [] k n h b = absurd (not-suc-le-zero h)
position_without p x (y ∷ row) k n h b =
    by_eq y x
    (λ e.
    let b' : 1 ≤ k = rw (eq-eqb y x e) at b in
    rw (eq-eqb y x e, ne_eqb y p (λ z. n (sym e ∙ z))) (omega arith))
    (λ e.
    let b' : suc (position x row) ≤ k = rw (ne_eqb y x e) at b in
    by_eq y p
    (λ f. rw (ne_eqb y x e, eq-eqb y p f) (omega arith))
    (λ f.
    let ih = position_without p x row (k - 1) n (omega (arith, ap one_if (ne_eqb y x e))) (omega arith) in
    rw (ne_eqb y x e, ne_eqb y p f) (one_down k _ _ (omega arith) ih)))

-- What a call does to the position of a plugin p that stands in the row, unless it is an accepted leave of p.
pub record Stays (c : Call) (x p : ℕ) (q : Queue) (r : Reply) : Type 0 where
  pub k_same : r.queue.k ≡ q.k
  pub stands : (eqb x p && is_leave c && eqb r.said.number 0) ≡ false
      → position p r.queue.row - q.k ≡ position p q.row - q.k - one_if (is_leave c && eqb r.said.number 0)
  pub still : (eqb x p && is_leave c && eqb r.said.number 0) ≡ false → 0 < times p r.queue.row

module _ (c : Call) (x p : ℕ) (q : Queue) (in_row : 0 < times p q.row) where
  -- The row is as it was, and no leave was accepted.
  same_row : (r : Reply) → r.queue.k ≡ q.k → r.queue.row ≡ q.row → (is_leave c && eqb r.said.number 0) ≡ false → Stays c x p q r
  same_row r ek er e = record {
    k_same = ek;
    stands = λ f. rw er (omega (arith, ap one_if e));
    still = λ f. rw er in_row;
  }

  refuse_stays : (b : Bool) (n : ℕ) (r : Reply) → (b ≡ false → Stays c x p q r) → Stays c x p q (queue_refuse b (suc n) q r)
  refuse_stays true n r f =
      same_row (record { queue = q; said = record { number = suc n; yes = false; place = 0 } }) refl refl
      (ap (λ (b : Bool). is_leave c && b) (ne_eqb (suc n) 0 (λ e. omega arith)) ∙ and_false (is_leave c))
  refuse_stays false n r f = f refl

module _ {B : Block} (g : Gate) (l : List Record) (q : Queue) (r : RelatedIn B g l q) (p : ℕ) (in_row : 0 < times p q.row) (x : ℕ) (a : 1 ≤ x) (b : x ≤ g.n) where
  take_stays : Stays Take x p q (took q x)
  take_stays = record {
    k_same = refl;
    stands = λ f. omega (arith, position_append p q.row (x ∷ []) in_row);
    still = λ f. omega (arith, count_append (λ y. eqb y p) q.row (x ∷ []));
  }

  look_stays : Stays Look x p q (looked_at q x)
  look_stays =
      by_bool (is_first q x)
      (λ e. rw e (same_row Look x p q in_row _ refl refl refl))
      (λ e. rw e (same_row Look x p q in_row _ refl refl refl))

  -- Who leaves is among the first k.
  leaver_first : eqb (region_of q x) 0 ≡ false → waits_behind q x ≡ false → is_first q x ≡ true
  leaver_first i w =
      let m = reg_at g l q r x in
      let inl : x - 1 < length l = omega (arith, r.len) in
      by_eq (region_of q x) 1
      (λ e. not-false (is_first q x) (rw (eq-eqb (region_of q x) 1 e) at w))
      (λ e.
      let two : (record_of l x).region ≡ 2 = omega (arith, m, eqb-false (region_of q x) 0 i, e, (r.is_sound.records (x - 1) inl).region_ok) in
      let hd : held (record_of l x) ≡ true = held_i (record_of l x) (λ z. omega arith) in
      first_valid_lem g l q r x a b hd ∙ valid_is g l r.is_sound (x - 1) inl hd ∙ ap not (r.is_sound.no_inside (x - 1) inl (eq-eqb _ _ two)))

  leave_stays : eqb (region_of q x) 0 ≡ false → waits_behind q x ≡ false → Stays Leave x p q (gone q x)
  leave_stays i w =
      let f = first_at q x (leaver_first i w) in
      let hd : held (record_of l x) ≡ true = held_i (record_of l x) (λ z. omega (arith, eqb-false (region_of q x) 0 i, reg_at g l q r x)) in
      let once : times x q.row ≡ 1 = r.row_times x a b ∙ ap one_if hd in
      let pos : position x q.row ≡ suc f.0 = position_at x q.row f.0 f.2 f.3 (omega arith) in
      record {
        k_same = refl;
        stands = λ e. position_without p x q.row q.k (eqb-false x p (and_false_first (eqb x p) e)) (omega arith) (omega (arith, f.1));
        still = λ e. omega (arith, times_without x p q.row (omega arith), ap one_if (and_false_first (eqb x p) e));
      }

  called_stays : (c : Call) → Stays c x p q (queue_called c q x)
  unfolding queue_called
  called_stays Take =
      refuse_stays Take x p q in_row (eqb (mark_of q x) 1) 4 _ (λ e. refuse_stays Take x p q in_row (not (eqb (region_of q x) 0)) 5 _ (λ f. take_stays))
  called_stays Look =
      refuse_stays Look x p q in_row (eqb (mark_of q x) 1) 4 _ (λ e. refuse_stays Look x p q in_row (not (eqb (region_of q x) 1)) 5 _ (λ f. look_stays))
  called_stays Leave =
      refuse_stays Leave x p q in_row (eqb (mark_of q x) 1) 4 _ (λ e.
      refuse_stays Leave x p q in_row (eqb (region_of q x) 0) 5 _ (λ f. refuse_stays Leave x p q in_row (waits_behind q x) 8 _ (λ w. leave_stays f w)))
  called_stays Place =
      refuse_stays Place x p q in_row (eqb (mark_of q x) 1) 4 _ (λ e.
      refuse_stays Place x p q in_row (not (eqb (region_of q x) 1)) 5 _ (λ f. same_row Place x p q in_row _ refl refl refl))
  called_stays Stop = refuse_stays Stop x p q in_row (eqb (mark_of q x) 1) 4 _ (λ e. same_row Stop x p q in_row _ refl refl refl)
  called_stays Wake = refuse_stays Wake x p q in_row (eqb (mark_of q x) 0) 6 _ (λ e. same_row Wake x p q in_row _ refl refl refl)

pub call_stays : {B : Block} (g : Gate) (l : List Record) (q : Queue) → RelatedIn B g l q → (p : ℕ) → 0 < times p q.row → (c : Call) (x : ℕ)
    → Stays c x p q (queue_call c q x)
unfolding queue_call
call_stays g l q r p in_row c x =
    refuse_stays c x p q in_row (eqb x 0 || ltb q.n x) 3 _ (λ e.
    let h = plugin_in q.n x e in
    called_stays g l q r p in_row x h.0 (omega (arith, h.1, r.n_is)) c)

-- The accepted leaves of a list of calls, counted from its entries.
unfoldable pub leaves_told : (ℕ → Bool) → List Step → List Entry → ℕ
leaves_told f [] es = 0
leaves_told f (step c p ∷ s) [] = 0
leaves_told f (step c p ∷ s) (e ∷ es) = one_if (f p && is_leave c && eqb e.number 0) + leaves_told f s es

-- A list of calls without an accepted leave of p: its position less k is down by the number of accepted leaves.
pub record Stood (p : ℕ) (q : Queue) (s : List Step) : Type 0 where
  pub k_same : (queue_after q s).k ≡ q.k
  pub stands : position p (queue_after q s).row - q.k ≡ position p q.row - q.k - leaves_told (λ x. true) s (queue_trace q s)
  pub still : 0 < times p (queue_after q s).row

pub one_if_zero : (b : Bool) (n : ℕ) → one_if b + n ≡ 0 → (b ≡ false) × (n ≡ 0)
one_if_zero true n e = absurd (omega arith)
one_if_zero false n e = (refl, omega arith)

less_twice : (n d e : ℕ) → n - d - e ≡ n - (d + e)
less_twice n d e = omega arith

both_less : (a b c k k' d e : ℕ) → k' ≡ k → a - k' ≡ b - k' - e → b - k ≡ c - k - d → a - k ≡ c - k - (d + e)
both_less a b c k k' d e s x y = ap (λ (z : ℕ). a - z) (sym s) ∙ x ∙ ap (λ (z : ℕ). b - z - e) s ∙ ap (λ (z : ℕ). z - e) y ∙ less_twice (c - k) d e

pub run_stays : {B : Block} (g : Gate) (l : List Record) (q : Queue) → RelatedIn B g l q → (p : ℕ) → 0 < times p q.row → (s : List Step)
    → leaves_told (λ x. eqb x p) s (queue_trace q s) ≡ 0 → Stood p q s
unfolding leaves_told queue_trace queue_after
run_stays g l q r p in_row [] e = record { k_same = refl; stands = omega arith; still = in_row }
run_stays {B} g l q r p in_row (step c x ∷ s) e =
    let k = call_stays g l q r p in_row c x in
    let z = one_if_zero (eqb x p && is_leave c && eqb (queue_call c q x).said.number 0) _ e in
    let t = run_stays (call_in B c g l x).gate (call_in B c g l x).list (queue_call c q x).queue (one_step_in g l q r c x).related p (k.still z.0) s z.1 in
    record {
      k_same = t.k_same ∙ k.k_same;
      stands = both_less _ _ _ q.k (queue_call c q x).queue.k _ _ k.k_same t.stands (k.stands z.0);
      still = t.still;
    }
