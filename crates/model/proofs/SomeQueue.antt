-- For every sound gate and list, reachable or not, some queue stands in the relation R to it: `some_queue`. So every call keeps soundness:
-- `call_keeps_sound_in`, in any block that fits; in the gate's own block: `call_keeps_sound`.
--
-- Its row: first, by plugin number, those who hold a ticket that is none of the places after VALID; then the holders of those places, in
-- their order.
use Prim.Native.Nat.{suc, zero, ℕ, ◌+◌, ◌-◌, ◌<◌, ◌≤◌}
use mathlib.Core.Path.{ap, ap₂, refl, sym, ◌∙◌, ◌≡◌}
use mathlib.Core.Bool.{Bool, cond, true}
use mathlib.Core.List.{List, [], map, ◌++◌, ◌∷◌}
use mathlib.Core.Logic.{inl, inr, ⊎_elim, ◌⊎◌}
use native.Mathlib.Nat.{le_of_suc-le-suc, not-suc-le-zero}
use native.Mathlib.Omega.{arith}
use lib.ListN.{get_or-append, drop, drop_of_length-le, get_or, length, length-append, length-map}
use lib.Seq.{drop-append-add, get_or-append-add}
use lib.Dec.{eqb}
use borrow.Author.Tests.{eq-eqb, le-ltb, lt-ltb, ne_eqb}
use Rattle.model.specs.declared.Call.{Call}
use Rattle.model.specs.declared.Gate.{Gate}
use Rattle.model.specs.declared.Record.{Record}
use Rattle.model.specs.declared.Ticket.{Ticket}
use Rattle.model.specs.Calls.{call, call_in, free_slots, idle_record, record_of}
use Rattle.model.specs.Lists.{any, count, one_if}
use Rattle.model.specs.Queue.{Queue}
use Rattle.model.specs.Sound.{ahead, ahead_in, among, behind, behind_in, held, holds, holds_other, next_place, pending_in, places, sound, sound_in, ticket_of}
use Rattle.model.specs.Steps.{Block, Fits, InBlock, col, val, block_of}
use Rattle.model.proofs.Blocks.{length_places, next_in, not_after, same_refl}
use Rattle.model.proofs.Counting.{any_i, count_append}
use Rattle.model.proofs.IsSound.{IsSoundIn, sound_i, sound_in_use, sound_use}
use Rattle.model.proofs.Logic.{and_false, by_bool, by_eq, by_lt, not_i, and_i, and_r}
use Rattle.model.proofs.OneStep.{one_step_in}
use Rattle.model.specs.Slots.{Slots}
use Rattle.model.proofs.RecordTests.{among_here, among_there, holds_is, holds_one_of}
use Rattle.model.proofs.Relation.{RelatedIn, plugin_ticket, times}
use Rattle.model.proofs.Rows.{count_two, each_cons, times_cons_other, times_cons_same}
use Rattle.model.proofs.SlotLaws.{slots_i, slots_use}
use Rattle.model.proofs.SlotStep.{Slotted, own_step}
use Rattle.model.proofs.SoundLaws.{behind_lt, held_once, one_of_cons}
use Rattle.model.proofs.Taking.{pending_nil}

-- The numbers, from m on, of the records that pass.
unfoldable passing : (Record → Bool) → ℕ → List Record → List ℕ
passing f m [] = []
passing f m (r ∷ l) = let rest = passing f (suc m) l in cond (f r) (m ∷ rest) rest

length_passing : (f : Record → Bool) (m : ℕ) (l : List Record) → length (passing f m l) ≡ count f l
unfolding passing count
length_passing f m [] = refl
length_passing f m (r ∷ l) =
    by_bool (f r)
    (λ e. rw e (ap suc (length_passing f (suc m) l) ∙ omega arith))
    (λ e. rw e (length_passing f (suc m) l ∙ omega arith))

each_passing : (P : ℕ → Type 0) (f : Record → Bool) (m : ℕ) (l : List Record) → ((x : ℕ) → m ≤ x → x < m + length l → P x)
    → (j : ℕ) → j < length (passing f m l) → P (get_or (passing f m l) j 0)
unfolding passing
each_passing P f m [] h = λ j b. absurd (not-suc-le-zero b)
each_passing P f m (r ∷ l) h =
    let ih = each_passing P f (suc m) l (λ x u v. h x (omega arith) (omega arith)) in
    by_bool (f r)
    (λ e. rw e (each_cons P m (passing f (suc m) l) (h m (omega arith) (omega arith)) ih))
    (λ e. rw e ih)

passing_below : (f : Record → Bool) (m : ℕ) (l : List Record) (p : ℕ) → p < m → times p (passing f m l) ≡ 0
unfolding passing count
passing_below f m [] p h = refl
passing_below f m (r ∷ l) p h =
    by_bool (f r)
    (λ e. rw e (omega (arith, times_cons_other p m (passing f (suc m) l) (λ z. omega arith), passing_below f (suc m) l p (omega arith))))
    (λ e. rw e (passing_below f (suc m) l p (omega arith)))

passing_at : (f : Record → Bool) (m : ℕ) (l : List Record) (j : ℕ) → j < length l → times (m + j) (passing f m l) ≡ one_if (f (get_or l j idle_record))
unfolding passing
passing_at f m [] j h = absurd (not-suc-le-zero h)
passing_at f m (r ∷ l) zero h =
    let e0 : m + 0 ≡ m = omega arith in
    rw e0
    (by_bool (f r)
    (λ e. rw e (omega (arith, times_cons_same m m (passing f (suc m) l) refl, passing_below f (suc m) l m (omega arith))))
    (λ e. rw e (passing_below f (suc m) l m (omega arith))))
passing_at f m (r ∷ l) (suc j) h =
    let e1 : m + suc j ≡ suc m + j = omega arith in
    let ih = passing_at f (suc m) l j (le_of_suc-le-suc h) in
    rw e1
    (by_bool (f r)
    (λ e. rw e (times_cons_other (suc m + j) m (passing f (suc m) l) (λ z. omega arith) ∙ ih))
    (λ e. rw e ih))

-- The number, from 0, of the first record that holds t.
unfoldable holder_of : Ticket → List Record → ℕ
holder_of t [] = 0
holder_of t (r ∷ l) = let rest = suc (holder_of t l) in cond (holds t r) 0 rest

holder_at : (t : Ticket) (l : List Record) → 0 < count (holds t) l → (holder_of t l < length l) × (holds t (get_or l (holder_of t l) idle_record) ≡ true)
unfolding holder_of count
holder_at t [] h = absurd (not-suc-le-zero h)
holder_at t (r ∷ l) h =
    by_bool (holds t r)
    (λ e. rw e (omega arith, e))
    (λ e. let ih = holder_at t l (omega (arith, ap one_if e)) in rw e (omega (arith, ih.0), ih.1))

-- The one holder of x is plugin p just when p's record holds x.
holder_is : (x : Ticket) (l : List Record) (j : ℕ) → j < length l → count (holds x) l ≡ 1 → eqb (suc (holder_of x l)) (1 + j) ≡ holds x (get_or l j idle_record)
holder_is x l j h e =
    let w = holder_at x l (omega arith) in
    by_eq (holder_of x l) j
    (λ z. eq-eqb (suc (holder_of x l)) (1 + j) (omega arith) ∙ sym (rw z at w.1))
    (λ z.
    ne_eqb (suc (holder_of x l)) (1 + j) (λ q. z (omega arith))
    ∙ sym (not_i _ (λ q. omega (arith, count_two (holds x) l (holder_of x l) j idle_record w.0 h z w.1 q))))

-- The holders of the first n places after t.
holders_times : (b : Block) (c : ℕ) (l : List Record) (n : ℕ) (t : Ticket) (j : ℕ) → j < length l → InBlock b t → n < b.size
    → ((u : Ticket) → among u (places b c t n) ≡ true → count (holds u) l ≡ 1)
    → times (1 + j) (map (λ u. suc (holder_of u l)) (places b c t n)) ≡ one_if (holds_one_of (places b c t n) (get_or l j idle_record))
unfolding places any count
holders_times b c l zero t j h p m f = ap one_if (sym (and_false (held (get_or l j idle_record))))
holders_times b c l (suc n) t j h p m f =
    let x = next_place b c t in
    omega (
      arith,
      ap one_if (holder_is x l j h (f x (among_here x (places b c x n)))),
      holders_times b c l n x j h (next_in b c t p) (omega arith) (λ u e. f u (among_there u x (places b c x n) e)),
      one_of_cons x (places b c x n) (get_or l j idle_record) (not_after b c x n (next_in b c t p).high (omega arith)),
    )

-- A held ticket is one of the places or another.
held_splits : (ps : List Ticket) (r : Record) → one_if (held r) ≡ one_if (holds_other ps r) + one_if (holds_one_of ps r)
held_splits ps r =
    by_bool (held r)
    (λ h. by_bool (among (ticket_of r) ps) (λ e. simp (h, e)) (λ e. simp (h, e)))
    (λ h. simp h)

-- VALID is not both ahead and behind.
one_lead : (B : Block) (g : Gate) → (ahead_in B g ≡ 0) ⊎ (behind_in B g ≡ 0)
unfolding ahead behind
one_lead B g =
    by_eq (col g.issue) (col g.valid)
    (λ e. by_lt (val g.issue) (val g.valid) (λ h. inr (simp (eq-eqb _ _ e) (omega arith))) (λ h. inl (simp (eq-eqb _ _ e) (omega arith))))
    (λ e. by_lt (val g.valid) (val g.issue) (λ h. inr (simp (ne_eqb _ _ e, lt-ltb _ _ h))) (λ h. inl (simp (ne_eqb _ _ e, le-ltb _ _ h))))

get_d_map_at : {A B : Type 0} (f : A → B) (xs : List A) (i : ℕ) (d : A) (e : B) → i < length xs → get_or (map f xs) i e ≡ f (get_or xs i d)
get_d_map_at f [] i d e h = absurd (not-suc-le-zero h)
get_d_map_at f (x ∷ xs) zero d e h = refl
get_d_map_at f (x ∷ xs) (suc i) d e h = get_d_map_at f xs i d e (le_of_suc-le-suc h)

map_back : {A B : Type 0} (f : A → B) (h : B → A) (xs : List A) (d : A) → ((i : ℕ) → i < length xs → h (f (get_or xs i d)) ≡ get_or xs i d) → map h (map f xs) ≡ xs
map_back f h [] d e = refl
map_back f h (x ∷ xs) d e = ap₂ (λ a t. a ∷ t) (e 0 (omega arith)) (map_back f h xs d (λ i b. e (suc i) (omega arith)))

module _ {B : Block} (g : Gate) (l : List Record) (s : IsSoundIn B g l) (len : length l ≡ g.n) (cl : length g.counts ≡ 65) where
  abbrev front : List ℕ
  front = passing (holds_other (pending_in B g)) 1 l

  abbrev back : List ℕ
  back = map (λ t. suc (holder_of t l)) (pending_in B g)

  abbrev queue : Queue
  queue = record { n = g.n; k = g.k; row = front ++ back; regions = map (λ r. r.region) l; marks = map (λ r. r.mark) l }

  pending_length : length (pending_in B g) ≡ behind_in B g
  unfolding pending_in
  pending_length = length_places B (col g.issue) g.valid (behind_in B g)

  front_length : length front + ahead_in B g ≡ g.k
  front_length = omega (arith, length_passing (holds_other (pending_in B g)) 1 l, s.others)

  row_length : length (front ++ back) + ahead_in B g ≡ g.k + behind_in B g
  row_length = omega (arith, length-append front back, front_length, length-map (pending_in B g) (λ t. suc (holder_of t l)), pending_length)

  pending_held : (j : ℕ) (d : Ticket) → j < length (pending_in B g) → count (holds (get_or (pending_in B g) j d)) l ≡ 1
  pending_held j d h = held_once g l s (get_or (pending_in B g) j d) (any_i _ (pending_in B g) d j h (same_refl (get_or (pending_in B g) j d) _ refl))

  back_at : (j : ℕ) (d : Ticket) → j < length (pending_in B g) → (holder_of (get_or (pending_in B g) j d) l < length l) × (plugin_ticket l (suc (holder_of (get_or (pending_in B g) j d) l)) ≡ get_or (pending_in B g) j d)
  back_at j d h =
      let w = holder_at (get_or (pending_in B g) j d) l (omega (arith, pending_held j d h)) in
      let e : suc (holder_of (get_or (pending_in B g) j d) l) - 1 ≡ holder_of (get_or (pending_in B g) j d) l = omega arith in
      (w.0, ap (λ (x : ℕ). ticket_of (get_or l x idle_record)) e ∙ sym (holds_is (get_or l (holder_of (get_or (pending_in B g) j d) l) idle_record) (get_or (pending_in B g) j d) w.1))

  in_row : (j : ℕ) → j < length (front ++ back) → (1 ≤ get_or (front ++ back) j 0) × (get_or (front ++ back) j 0 ≤ g.n)
  in_row j h =
      by_lt j (length front)
      (λ b. rw (get_or-append front back 0 j b)
      (each_passing (λ x. (1 ≤ x) × (x ≤ g.n)) (holds_other (pending_in B g)) 1 l (λ x u v. (u, omega (arith, len))) j b))
      (λ b.
      let i = j - length front in
      let e : j ≡ length front + i = omega arith in
      let q : i < length (pending_in B g) = omega (arith, length-append front back, length-map (pending_in B g) (λ t. suc (holder_of t l))) in
      let w : get_or (front ++ back) j 0 ≡ suc (holder_of (get_or (pending_in B g) i g.valid) l) =
      ap (λ (x : ℕ). get_or (front ++ back) x 0) e ∙ get_or-append-add front back i 0 ∙ get_d_map_at (λ t. suc (holder_of t l)) (pending_in B g) i g.valid 0 q in
      rw w (omega arith, omega (arith, (back_at i g.valid q).0, len)))

  times_at : (j : ℕ) → j < length l → times (1 + j) (front ++ back) ≡ one_if (held (get_or l j idle_record))
  unfolding pending_in
  times_at j h =
      omega (
        arith,
        count_append (λ x. eqb x (1 + j)) front back,
        passing_at (holds_other (pending_in B g)) 1 l j h,
        holders_times B (col g.issue) l (behind_in B g) g.valid j h s.valid_in_lem (behind_lt g l s) (held_once g l s),
        held_splits (pending_in B g) (get_or l j idle_record),
      )

  in_row_times : (p : ℕ) → 1 ≤ p → p ≤ g.n → times p (front ++ back) ≡ one_if (held (record_of l p))
  in_row_times p a b = let e : 1 + (p - 1) ≡ p = omega arith in rw e at (times_at (p - 1) (omega (arith, len)))

  in_tail : map (plugin_ticket l) (drop g.k (front ++ back)) ≡ pending_in B g
  in_tail =
      ⊎_elim
      (λ z.
      let f : g.k ≡ length front + 0 = omega (arith, front_length) in
      ap (λ (n : ℕ). map (plugin_ticket l) (drop n (front ++ back))) f
      ∙ ap (map (plugin_ticket l)) (drop-append-add front back 0)
      ∙ map_back (λ t. suc (holder_of t l)) (plugin_ticket l) (pending_in B g) g.valid (λ i h. (back_at i g.valid h).1))
      (λ z.
      ap (map (plugin_ticket l)) (drop_of_length-le (front ++ back) {i = g.k} (omega (arith, row_length)))
      ∙ sym (pending_nil B g z))
      (one_lead B g)

  pub some_queue : (q : Queue) × RelatedIn B g l q
  some_queue = (
    queue,
    record {
      is_sound = s;
      len = len;
      counts_len = cl;
      n_is = refl;
      k_is = refl;
      regions_are = refl;
      marks_are = refl;
      row_range = in_row;
      row_times = in_row_times;
      row_size = row_length;
      row_tail = in_tail;
    },
  )

-- Soundness is kept by every call, from any sound gate and list, reachable or not: in any block that fits, so in the gate's own.
pub call_keeps_sound_in : (b : Block) (g : Gate) (l : List Record) → Fits b g.n g.k → sound_in b g l ≡ true → length l ≡ g.n → length g.counts ≡ 65
    → (c : Call) (p : ℕ) → sound_in b (call_in b c g l p).gate (call_in b c g l p).list ≡ true
call_keeps_sound_in b g l f s len cl c p =
    let q = some_queue g l (sound_in_use b g l f s) len cl in
    sound_i _ _ (one_step_in g l q.0 q.1 c p).related.is_sound

-- So are sound slots.
pub some_slots : (g : Gate) (l : List Record) → sound g l ≡ true → length g.free ≡ 64 → (x : Slots) × Slotted g l x
some_slots g l s fl = (
  record { free = free_slots g.free; owned = map (λ r. r.slot.0) l },
  record { has = slots_use g l fl (and_r (sound_in (block_of g) g l) _ s); owned_are = refl },
)

pub call_keeps_sound : (g : Gate) (l : List Record) → sound g l ≡ true → length l ≡ g.n → length g.counts ≡ 65 → length g.free ≡ 64
    → (c : Call) (p : ℕ) → sound (call c g l p).gate (call c g l p).list ≡ true
call_keeps_sound g l s len cl fl c p =
    let q = some_queue g l (sound_use g l s) len cl in
    let x = some_slots g l s fl in
    let a = own_step g l q.0 q.1 x.0 x.1 c p in
    and_i _ _ (sound_i _ _ a.agree.related.is_sound) (slots_i _ _ _ a.slotted.has)
