-- The claim of demand 3, proved: `gate_is_queue`. The queue in any block that fits: `any_block_is_queue`.
--
-- By induction over the list of calls, with the relation R and one step (OneStep).
use Prim.Native.Nat.{suc, ℕ, ◌+◌, ◌-◌, ◌<◌, ◌≤◌}
use mathlib.Core.Path.{ap, ap₂, refl, sym, ◌∙◌, ◌≡◌}
use mathlib.Core.Bool.{Bool, false, ◌&&◌}
use mathlib.Core.List.{List, [], map, ◌∷◌}
use native.Mathlib.Omega.{arith}
use lib.ListN.{get_or, length, replicate, take}
use lib.Dec.{eqb}
use lib.LanesLaws.{map-replicate}
use Rattle.model.specs.declared.Gate.{Gate}
use Rattle.model.specs.declared.Record.{Record}
use Rattle.model.specs.Calls.{Outcome, Step, call, call_in, idle_record, record_of, step}
use Rattle.model.specs.Opening.{opened, opened_in}
use Rattle.model.specs.Claim.{AnyBlockIsQueue, Entry, GateIsQueue, SlotEntry, gate_entry, gate_slots, gate_trace, gate_trace_in, queue_entry, queue_slots, queue_trace}
use Rattle.model.specs.Lists.{one_if, numbers_from}
use Rattle.model.specs.Queue.{Queue, Reply, Said, empty_queue, is_first, queue_call}
use Rattle.model.specs.Slots.{Slots, open_slots}
use Rattle.model.specs.Sound.{held, ticket_of}
use Rattle.model.specs.Steps.{Block, is_valid, ticket}
use Rattle.model.proofs.Counting.{any_count}
use Rattle.model.proofs.Ledger.{tickets_noted}
use Rattle.model.proofs.Logic.{by_bool, not_i}
use Rattle.model.proofs.OneStep.{AgreeIn, one_step_in}
use Rattle.model.proofs.Opening.{open_related, open_related_in}
use Rattle.model.proofs.Relation.{Related, RelatedIn, plugin_ticket}
use Rattle.model.proofs.RelationLaws.{first_valid_lem}
use Rattle.model.proofs.Rows.{times_split}
use Rattle.model.proofs.SlotStep.{Slotted, open_slotted, own_step}

-- A map over a list is a map over its plugin numbers.
map_numbered : {A B : Type 0} (f : A → B) (h : ℕ → B) (l : List A) (d : A) (p : ℕ) → ((i : ℕ) → i < length l → f (get_or l i d) ≡ h (p + i))
    → map f l ≡ map h (numbers_from p (length l))
unfolding numbers_from
map_numbered f h [] d p e = refl
map_numbered f h (x ∷ l) d p e =
    ap₂ (λ a t. a ∷ t) (e 0 (omega arith) ∙ ap h (omega arith))
    (map_numbered f h l d (suc p) (λ i b. e (suc i) (omega arith) ∙ ap h (omega arith)))

-- A plugin that is not in the row is not among its first k.
not_first : {B : Block} (g : Gate) (l : List Record) (q : Queue) → RelatedIn B g l q → (p : ℕ) → 1 ≤ p → p ≤ g.n → held (record_of l p) ≡ false → is_first q p ≡ false
not_first g l q r p a b e =
    not_i _ (λ f. omega (
      arith,
      any_count (λ x. eqb x p) (take q.k q.row) f,
      times_split p q.k q.row,
      r.row_times p a b,
      ap one_if e,
    ))

-- Who holds a valid ticket is who is among the first k.
valid_same : {B : Block} (g : Gate) (l : List Record) (q : Queue) → RelatedIn B g l q → (p : ℕ) → 1 ≤ p → p ≤ g.n
    → (held (record_of l p) && is_valid g (plugin_ticket l p)) ≡ is_first q p
valid_same g l q r p a b =
    by_bool (held (record_of l p))
    (λ e. rw e (sym (first_valid_lem g l q r p a b e)))
    (λ e. rw e (sym (not_first g l q r p a b e)))

valid_lists : {B : Block} (g : Gate) (l : List Record) (q : Queue) → RelatedIn B g l q
    → map (λ r. held r && is_valid g (ticket_of r)) l ≡ map (is_first q) (numbers_from 1 q.n)
valid_lists g l q r =
    map_numbered (λ x. held x && is_valid g (ticket_of x)) (is_first q) l idle_record 1
    (λ i h.
    let e : 1 + i - 1 ≡ i = omega arith in
    ap (λ (j : ℕ). held (get_or l j idle_record) && is_valid g (ticket_of (get_or l j idle_record))) (sym e)
    ∙ valid_same g l q r (1 + i) (omega arith) (omega (arith, r.len)))
    ∙ ap (λ (n : ℕ). map (is_first q) (numbers_from 1 n)) (r.len ∙ sym r.n_is)

-- An entry of its parts.
abbrev pub entry : Said → List ℕ → List ℕ → List Bool → Entry
entry a rs ms vs = record { number = a.number; yes = a.yes; place = a.place; regions = rs; marks = ms; valid = vs }

entry_same : {B : Block} (o : Outcome) (a : Reply) → AgreeIn B o a → gate_entry o ≡ queue_entry a
entry_same o a e =
    let r = e.related in
    ap (λ (x : Said). entry x (map (λ r. r.region) o.list) (map (λ r. r.mark) o.list) (map (λ r. held r && is_valid o.gate (ticket_of r)) o.list)) e.said
    ∙ ap (λ (x : List ℕ). entry a.said x (map (λ r. r.mark) o.list) (map (λ r. held r && is_valid o.gate (ticket_of r)) o.list)) (sym r.regions_are)
    ∙ ap (λ (x : List ℕ). entry a.said a.queue.regions x (map (λ r. held r && is_valid o.gate (ticket_of r)) o.list)) (sym r.marks_are)
    ∙ ap (λ (x : List Bool). entry a.said a.queue.regions a.queue.marks x) (valid_lists o.gate o.list a.queue r)

pub trace_same : (g : Gate) (l : List Record) (q : Queue) → Related g l q → (x : Slots) → Slotted g l x → (s : List Step) → gate_trace g l s ≡ queue_trace q s
unfolding gate_trace queue_trace
trace_same g l q r x w [] = refl
trace_same g l q r x w (step c p ∷ s) =
    let a = own_step g l q r x w c p in
    ap₂ (λ (x : Entry) (t : List Entry). x ∷ t) (entry_same (call c g l p) (queue_call c q p) a.agree)
    (trace_same (call c g l p).gate (call c g l p).list (queue_call c q p).queue a.agree.related _ a.slotted s)

-- The slots that are given and owned are those of the slot rule.
pub slots_same : (g : Gate) (l : List Record) (q : Queue) → Related g l q → (x : Slots) → Slotted g l x → (s : List Step) → gate_slots g l s ≡ queue_slots q x s
unfolding gate_slots queue_slots
slots_same g l q r x w [] = refl
slots_same g l q r x w (step c p ∷ s) =
    let a = own_step g l q r x w c p in
    ap₂ (λ (e : SlotEntry) (t : List SlotEntry). e ∷ t)
    (ap₂ (λ (n : ℕ) (m : List ℕ). record { given = n; slots = m }) a.given_is (sym a.slotted.owned_are))
    (slots_same (call c g l p).gate (call c g l p).list (queue_call c q p).queue a.agree.related _ a.slotted s)

-- In any block.
pub trace_same_in : {B : Block} (g : Gate) (l : List Record) (q : Queue) → RelatedIn B g l q → (s : List Step) → gate_trace_in B g l s ≡ queue_trace q s
unfolding gate_trace_in queue_trace
trace_same_in g l q r [] = refl
trace_same_in {B} g l q r (step c p ∷ s) =
    let a = one_step_in g l q r c p in
    ap₂ (λ (x : Entry) (t : List Entry). x ∷ t) (entry_same (call_in B c g l p) (queue_call c q p) a)
    (trace_same_in (call_in B c g l p).gate (call_in B c g l p).list (queue_call c q p).queue a.related s)

pub any_block_is_queue : AnyBlockIsQueue
any_block_is_queue b year n k e f s = trace_same_in (opened_in b year n k).gate (opened_in b year n k).list (empty_queue n k) (open_related_in b year n k e f) s

-- The claim, for every year, N and k that open accepts and every list of calls.
pub gate_is_queue : GateIsQueue
gate_is_queue year n k e s = record {
  as_queue = trace_same (opened year n k).gate (opened year n k).list (empty_queue n k) (open_related year n k e) (open_slots n k) (open_slotted year n k) s;
  as_taken = tickets_noted (opened year n k).gate (opened year n k).list (replicate n (ticket 0 0)) (map-replicate ticket_of n idle_record) s;
  as_slots = slots_same (opened year n k).gate (opened year n k).list (empty_queue n k) (open_related year n k e) (open_slots n k) (open_slotted year n k) s;
}
