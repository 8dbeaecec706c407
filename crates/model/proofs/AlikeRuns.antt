-- Alike gates run alike (A.6), and alike is an equivalence on sound gates.
--
-- The way: a sound gate has a queue that it is related to (`some_queue`), and R looks at no more of a gate than its board, so an alike gate is
-- related to the same queue (`related_too`). Both then answer as that queue does. Back: gates related to one queue have equal boards
-- (`related_boards`).
--
-- Main statements: `alike_runs_same`, `alike_gates_run_same`, `alike_is_equivalence`; `years_run_same`, gates of two blocks.
use Prim.Native.Nat.{suc, ℕ, ◌+◌, ◌-◌, ◌<◌, ◌≤◌}
use mathlib.Core.Path.{ap, ap₂, refl, sym, ◌∙◌, ◌≡◌}
use mathlib.Core.Bool.{Bool, cond, false, not, true, true≢false, ◌&&◌}
use mathlib.Core.List.{List, [], map, ◌∷◌}
use native.Mathlib.Omega.{arith}
use lib.ListN.{get_or-map, drop, get_or, length, length-drop, length-map}
use lib.Seq.{ext_get_or, get_or-drop}
use lib.Dec.{eqb}
use borrow.Author.Tests.{eq-eqb, eqb-true}
use Rattle.model.specs.declared.Refusal.{Refusal}
use Rattle.std.specs.Prelude.{Err, Ok, Result}
use Rattle.model.specs.declared.Gate.{Gate}
use Rattle.model.specs.declared.Record.{Record}
use Rattle.model.specs.Board.{AlikeGatesRunSame, AlikeIsEquivalence, AlikeRunsSame, SameRun, SoundGate, board_in, standing_in}
use Rattle.model.specs.Calls.{Step, after, after_in, call_in, idle_record, step}
use Rattle.model.specs.Opening.{open_accepts, opened, opened_in}
use Rattle.model.specs.Shown.{comparison_shown}
use Rattle.model.specs.Alike.{alike, alike_in, compared, holds_invalid}
use Rattle.model.specs.Claim.{queue_after}
use Rattle.model.specs.Lists.{count, one_if}
use Rattle.model.specs.Queue.{Queue, empty_queue, position, queue_call}
use Rattle.model.specs.Sound.{ahead_in, among, behind_in, held, holds_other, idle, pending_in, sound, sound_in, ticket_of}
use Rattle.model.specs.Slots.{Slots}
use Rattle.model.specs.Steps.{Block, Fits, block_of, col, returns_in, year_block}
use Rattle.model.proofs.AlikeFacts.{alike_i}
use Rattle.model.proofs.Audit.{after_related, after_slotted}
use Rattle.model.proofs.Blocks.{get_d_places, length_places, place}
use Rattle.model.proofs.Board.{alike_is_board, board_alike, board_eq, board_held, board_k, board_mark, board_n, board_region, board_returns, board_valid, count_both, invalid_same, map_both, shown_same, sound_of, standing_eq}
use Rattle.model.proofs.GateIsQueue.{trace_same, trace_same_in}
use Rattle.model.proofs.IsSound.{IsSoundIn, own_fits, sound_i}
use Rattle.model.proofs.Logic.{and_i, and_l, by_bool}
use Rattle.model.proofs.OneStep.{one_step_in, place_is_lem}
use Rattle.model.proofs.Opening.{open_related, open_related_in}
use Rattle.model.proofs.Ranks.{invalid_count, returns_ticket}
use Rattle.model.proofs.Relation.{Related, RelatedIn, plugin_ticket, times}
use Rattle.model.proofs.RelationLaws.{mark_at, reg_at, row_held}
use Rattle.model.proofs.Rows.{position_at}
use Rattle.model.proofs.SlotLaws.{slots_i}
use Rattle.model.proofs.SlotStep.{Slotted}
use Rattle.model.proofs.SomeQueue.{some_queue, some_slots}
use Rattle.model.proofs.Validity.{valid_is}

-- Two sound gates with equal boards, and a queue related to the first.
module _ {B : Block} {C : Block} (g : Gate) (l : List Record) (h : Gate) (m : List Record) (s : IsSoundIn B g l) (t : IsSoundIn C h m)
    (len : length l ≡ g.n) (len' : length m ≡ h.n) (e : board_in B g l ≡ board_in C h m) where
  abbrev one : ℕ → Record
  one i = get_or l i idle_record

  abbrev other : ℕ → Record
  other i = get_or m i idle_record

  same_n : g.n ≡ h.n
  same_n = board_n B g l C h m e

  same_k : g.k ≡ h.k
  same_k = board_k B g l C h m e

  same_held : (i : ℕ) → held (one i) ≡ held (other i)
  same_held = board_held B g l C h m e

  -- The lead is the same in both.
  behind_same : behind_in B g ≡ behind_in C h
  behind_same =
      sym (invalid_count g l s)
      ∙ count_both (holds_invalid g) (holds_invalid h) l m idle_record idle_record (len ∙ same_n ∙ sym len')
      (λ i b. invalid_same g l h m s t len len' (board_alike g l h m s t len len' e) i (omega (arith, len)))
      ∙ invalid_count h m t

  others_same : count (holds_other (pending_in B g)) l ≡ count (holds_other (pending_in C h)) m
  others_same =
      count_both (holds_other (pending_in B g)) (holds_other (pending_in C h)) l m idle_record idle_record (len ∙ same_n ∙ sym len') (λ i b.
      by_bool (held (one i))
      (λ hd.
      ap₂ (λ (x y : Bool). x && y) (same_held i)
      (sym (valid_is g l s i b hd) ∙ board_valid g l h m s t len len' e i (omega (arith, len)) hd
      ∙ valid_is h m t i (omega (arith, len, len', same_n)) (sym (same_held i) ∙ hd)))
      (λ hd.
      ap (λ (x : Bool). x && not (among (ticket_of (one i)) (pending_in B g))) hd
      ∙ sym (ap (λ (x : Bool). x && not (among (ticket_of (other i)) (pending_in C h))) (sym (same_held i) ∙ hd))))

  ahead_same : ahead_in B g ≡ ahead_in C h
  ahead_same = omega (arith, s.others, t.others, others_same, same_k)

  module _ (counts_len : length h.counts ≡ 65) (q : Queue) (r : RelatedIn B g l q) where
    -- The row from the first on that is not among its first k.
    abbrev tail : List ℕ
    tail = drop g.k q.row

    tail_length : length tail ≡ behind_in C h
    unfolding pending_in
    tail_length = sym (length-map tail (plugin_ticket l)) ∙ ap length r.row_tail ∙ length_places B (col g.issue) g.valid (behind_in B g) ∙ behind_same

    -- The plugin at position k + 1 + j has returns 1 + j in both gates.
    tail_ticket : (j : ℕ) → j < behind_in C h → plugin_ticket m (get_or tail j 0) ≡ place C (col h.issue) h.valid (suc j)
    tail_ticket j b =
        let x = get_or tail j 0 in
        let e1 : x ≡ get_or q.row (g.k + j) 0 = get_or-drop g.k q.row j 0 in
        let in_row : g.k + j < length q.row = omega (arith, tail_length, length-drop g.k q.row) in
        let low : 1 ≤ x = rw e1 (r.row_range (g.k + j) in_row).0 in
        let high : x ≤ g.n = rw e1 (r.row_range (g.k + j) in_row).1 in
        let hd : held (one (x - 1)) ≡ true = rw e1 (row_held g l q r (g.k + j) in_row) in
        let once : times x q.row ≤ 1 = omega (arith, r.row_times x low high, ap one_if hd) in
        let pos : position x q.row ≡ suc (g.k + j) = position_at x q.row (g.k + j) in_row (sym e1) once in
        let ret : returns_in C h (ticket_of (other (x - 1))) ≡ suc j =
        sym (board_returns B g l C h m e (x - 1) hd) ∙ place_is_lem g l q r x low high hd ∙ omega (arith, pos, r.k_is) in
        returns_ticket h m t (x - 1) j (omega (arith, len', same_n)) (sym (same_held (x - 1)) ∙ hd) ret

    related_tail : map (plugin_ticket m) tail ≡ pending_in C h
    unfolding pending_in
    related_tail =
        ext_get_or (plugin_ticket m 0) _ _
        (length-map tail (plugin_ticket m) ∙ tail_length ∙ sym (length_places C (col h.issue) h.valid (behind_in C h)))
        (λ j b.
        let b' : j < behind_in C h = omega (arith, length-map tail (plugin_ticket m), tail_length) in
        get_or-map (plugin_ticket m) tail j 0 ∙ tail_ticket j b' ∙ sym (get_d_places C (col h.issue) h.valid (behind_in C h) j (plugin_ticket m 0) b'))

    pub related_too : RelatedIn C h m q
    related_too = record {
      is_sound = t;
      len = len';
      counts_len = counts_len;
      n_is = r.n_is ∙ same_n;
      k_is = r.k_is ∙ same_k;
      regions_are = r.regions_are ∙ map_both (λ x. x.region) (λ x. x.region) l m idle_record idle_record (len ∙ same_n ∙ sym len') (λ i b. board_region B g l C h m e i);
      marks_are = r.marks_are ∙ map_both (λ x. x.mark) (λ x. x.mark) l m idle_record idle_record (len ∙ same_n ∙ sym len') (λ i b. board_mark B g l C h m e i);
      row_range = λ j b. ((r.row_range j b).0, omega (arith, (r.row_range j b).1, same_n));
      row_times = λ p a b. r.row_times p a (omega (arith, same_n)) ∙ ap one_if (same_held (p - 1));
      row_size = omega (arith, r.row_size, behind_same, ahead_same, same_k);
      row_tail = ap (λ (k : ℕ). map (plugin_ticket m) (drop k q.row)) (sym same_k) ∙ related_tail;
    }

-- Two gates related to one queue have equal boards, so they are alike.
pub related_boards : {B : Block} {C : Block} (g : Gate) (l : List Record) (h : Gate) (m : List Record) (q : Queue) → RelatedIn B g l q → RelatedIn C h m q
    → board_in B g l ≡ board_in C h m
related_boards {B} {C} g l h m q r u =
    board_eq _ _ _ _ _ _ (sym r.n_is ∙ u.n_is) (sym r.k_is ∙ u.k_is)
    (map_both (standing_in B g) (standing_in C h) l m idle_record idle_record (omega (arith, r.len, u.len, r.n_is, u.n_is)) (λ i b.
    let e : 1 + i - 1 ≡ i = omega arith in
    let region : (get_or l i idle_record).region ≡ (get_or m i idle_record).region =
    rw e at (sym (reg_at g l q r (1 + i)) ∙ reg_at h m q u (1 + i)) in
    let mark : (get_or l i idle_record).mark ≡ (get_or m i idle_record).mark =
    rw e at (sym (mark_at g l q r (1 + i)) ∙ mark_at h m q u (1 + i)) in
    standing_eq _ _ _ _ _ _ region mark
    (shown_same (idle (get_or l i idle_record)) (idle (get_or m i idle_record)) _ _ (ap (λ (y : ℕ). eqb y 0) region) (λ hd.
    let hd' : held (get_or m i idle_record) ≡ true = ap (λ (y : ℕ). not (eqb y 0)) (sym region) ∙ hd in
    let i1 : i + 1 ≤ g.n = omega (arith, r.len) in
    let i2 : i + 1 ≤ h.n = omega (arith, r.len, r.n_is, u.n_is) in
    let x : returns_in B g (ticket_of (get_or l i idle_record)) ≡ position (1 + i) q.row - q.k =
    rw e at (place_is_lem g l q r (1 + i) (omega arith) (omega arith) (rw e hd)) in
    let y : returns_in C h (ticket_of (get_or m i idle_record)) ≡ position (1 + i) q.row - q.k =
    rw e at (place_is_lem h m q u (1 + i) (omega arith) (omega arith) (rw e hd')) in
    x ∙ sym y))))

related_alike : {B : Block} {C : Block} (g : Gate) (l : List Record) (h : Gate) (m : List Record) (q : Queue) → RelatedIn B g l q → RelatedIn C h m q
    → alike_in B g l C h m ≡ true
related_alike {B} {C} g l h m q r u =
    alike_i B g l C h m (board_alike g l h m r.is_sound u.is_sound r.len u.len (related_boards g l h m q r u))

-- Two alike gates are related to one queue.
one_queue : (b : Block) (g : Gate) (l : List Record) (c : Block) (h : Gate) (m : List Record) → SoundGate b g l → SoundGate c h m
    → length g.counts ≡ 65 → length h.counts ≡ 65 → alike_in b g l c h m ≡ true → (q : Queue) × RelatedIn b g l q × RelatedIn c h m q
one_queue b g l c h m s t n n' a =
    let q = some_queue g l (sound_of s) s.list_len n in (
      q.0,
      q.1,
      related_too g l h m (sound_of s) (sound_of t) s.list_len t.list_len ((alike_is_board b g l c h m s t).0 a) n' q.0 q.1,
    )

-- A list of calls, in any block.
pub after_related_in : {B : Block} (g : Gate) (l : List Record) (q : Queue) → RelatedIn B g l q → (s : List Step)
    → RelatedIn B (after_in B g l s).gate (after_in B g l s).list (queue_after q s)
unfolding after_in queue_after
after_related_in g l q r [] = r
after_related_in {B} g l q r (step c p ∷ s) =
    after_related_in (call_in B c g l p).gate (call_in B c g l p).list (queue_call c q p).queue (one_step_in g l q r c p).related s

pub alike_runs_same : AlikeRunsSame
alike_runs_same b g l c h m s t n n' a w =
    let q = one_queue b g l c h m s t n n' a in
    record {
      same_trace = trace_same_in g l q.0 q.1 w ∙ sym (trace_same_in h m q.0 q.2 w);
      still_alike =
          related_alike (after_in b g l w).gate (after_in b g l w).list (after_in c h m w).gate (after_in c h m w).list (queue_after q.0 w)
          (after_related_in g l q.0 q.1 w) (after_related_in h m q.0 q.2 w);
    }

-- The call alike: what its yes says.
read_on : (b : Bool) (r : Refusal) (x : Result Bool Refusal) → cond (not b) (Err r) x ≡ Ok true → (b ≡ true) × (x ≡ Ok true)
read_on true r x e = (refl, e)
read_on false r x e = absurd (true≢false (ap (λ (c : Result Bool Refusal). (comparison_shown c).yes) (sym e)))

alike_of : (b : Bool) → ◌≡◌ {A = Result Bool Refusal} (cond b (Ok true) (Ok false)) (Ok true) → b ≡ true
alike_of true e = refl
alike_of false e = absurd (true≢false (ap (λ (c : Result Bool Refusal). (comparison_shown c).yes) (sym e)))

-- A sound gate of its own block.
record Own (g : Gate) (l : List Record) : Type 0 where
  tickets : SoundGate (block_of g) g l
  whole : sound g l ≡ true

own_sound : (g : Gate) (l : List Record) → length l ≡ g.n → sound g l ≡ true → Own g l
own_sound g l a b = record { tickets = record { fits = own_fits g l (and_l (sound_in (block_of g) g l) _ b); is_sound = and_l (sound_in (block_of g) g l) _ b; list_len = a }; whole = b }

alike_says : (g : Gate) (l : List Record) (h : Gate) (m : List Record) → alike g l h m ≡ Ok true
    → Own g l × Own h m × (alike_in (block_of g) g l (block_of h) h m ≡ true)
unfolding alike compared
alike_says g l h m e =
    let e2 = read_on (eqb (length l) g.n) _ _ e in
    let e2' = read_on (eqb (length m) h.n) _ _ e2.1 in
    let e3 = read_on (sound g l) _ _ e2'.1 in
    let e3' = read_on (sound h m) _ _ e3.1 in
    (own_sound g l (eqb-true _ _ e2.0) e3.0, own_sound h m (eqb-true _ _ e2'.0) e3'.0, alike_of _ e3'.1)

says_alike : (g : Gate) (l : List Record) (h : Gate) (m : List Record) → length l ≡ g.n → length m ≡ h.n → sound g l ≡ true → sound h m ≡ true
    → alike_in (block_of g) g l (block_of h) h m ≡ true → alike g l h m ≡ Ok true
unfolding alike compared
says_alike g l h m a b c d e = rw (eq-eqb _ _ a, eq-eqb _ _ b, c, d, e) refl

-- After any calls a sound gate is sound.
after_sound : (g : Gate) (l : List Record) (q : Queue) → Related g l q → (x : Slots) → Slotted g l x → (s : List Step) → sound (after g l s).gate (after g l s).list ≡ true
after_sound g l q r x w s = and_i _ _ (sound_i _ _ (after_related g l q r x w s).is_sound) (slots_i _ _ _ (after_slotted g l q r x w s).1.has)

pub alike_gates_run_same : AlikeGatesRunSame
alike_gates_run_same g l h m n n' f f' e w =
    let x = alike_says g l h m e in
    let y = some_slots g l x.0.whole f in
    let z = some_slots h m x.1.whole f' in
    let q = one_queue (block_of g) g l (block_of h) h m x.0.tickets x.1.tickets n n' x.2 in
    let r = after_related g l q.0 q.1 y.0 y.1 w in
    let u = after_related h m q.0 q.2 z.0 z.1 w in
    record {
      same_trace = trace_same g l q.0 q.1 y.0 y.1 w ∙ sym (trace_same h m q.0 q.2 z.0 z.1 w);
      still_alike =
          says_alike _ _ _ _ r.len u.len (after_sound g l q.0 q.1 y.0 y.1 w) (after_sound h m q.0 q.2 z.0 z.1 w)
          (related_alike (after g l w).gate (after g l w).list (after h m w).gate (after h m w).list (queue_after q.0 w) r u);
    }

-- Equal boards are an equivalence, so alike is.
board_of : (g : Gate) (l : List Record) (h : Gate) (m : List Record) → alike g l h m ≡ Ok true
    → Own g l × Own h m × (board_in (block_of g) g l ≡ board_in (block_of h) h m)
board_of g l h m e = let x = alike_says g l h m e in (x.0, x.1, (alike_is_board _ g l _ h m x.0.tickets x.1.tickets).0 x.2)

of_board : (g : Gate) (l : List Record) (h : Gate) (m : List Record) → Own g l → Own h m
    → board_in (block_of g) g l ≡ board_in (block_of h) h m → alike g l h m ≡ Ok true
of_board g l h m s t e =
    says_alike g l h m s.tickets.list_len t.tickets.list_len s.whole t.whole ((alike_is_board _ g l _ h m s.tickets t.tickets).1 e)

pub alike_is_equivalence : AlikeIsEquivalence
alike_is_equivalence = record {
  reflexive = λ g l n s. of_board g l g l (own_sound g l n s) (own_sound g l n s) refl;
  symmetric = λ g l h m e. let x = board_of g l h m e in of_board h m g l x.1 x.0 (sym x.2);
  transitive = λ g l h m f o d e. let x = board_of g l h m d in let y = board_of h m f o e in of_board g l f o x.0 y.1 (x.2 ∙ y.2);
}

-- Openings of the same N and k run the same, whatever their years and blocks.
openings_alike : (b c : Block) (year year' n k : ℕ) → open_accepts year n k ≡ true → open_accepts year' n k ≡ true → Fits b n k → Fits c n k → (s : List Step)
    → SameRun b (opened_in b year n k).gate (opened_in b year n k).list c (opened_in c year' n k).gate (opened_in c year' n k).list s
openings_alike b c year year' n k e e' f f' s =
    let r = open_related_in b year n k e f in
    let u = open_related_in c year' n k e' f' in
    alike_runs_same b _ _ c _ _
    (record { fits = f; is_sound = sound_i _ _ r.is_sound; list_len = r.len }) (record { fits = f'; is_sound = sound_i _ _ u.is_sound; list_len = u.len })
    r.counts_len u.counts_len
    (related_alike (opened_in b year n k).gate (opened_in b year n k).list (opened_in c year' n k).gate (opened_in c year' n k).list (empty_queue n k) r u) s

-- So do a gate of 1979 and one of 1989.
pub years_run_same : (year year' n k : ℕ) → open_accepts year n k ≡ true → open_accepts year' n k ≡ true → (s : List Step)
    → SameRun (year_block year n k) (opened year n k).gate (opened year n k).list (year_block year' n k) (opened year' n k).gate (opened year' n k).list s
years_run_same year year' n k e e' s =
    openings_alike (year_block year n k) (year_block year' n k) year year' n k e e' (open_related year n k e).is_sound.fits (open_related year' n k e').is_sound.fits s
