-- The fields of a record that a call leaves as they were, whatever its answer.
--
-- Main statements: `marks_kept`, `values_kept` and their like, of the slices after a call.
use Prim.Native.Nat.{ℕ, ◌-◌}
use mathlib.Core.Path.{ap, refl, sym, ◌∙◌, ◌≡◌}
use mathlib.Core.Bool.{Bool, false, not, true, ◌||◌}
use mathlib.Core.List.{List, [], ◌∷◌, map}
use lib.ListN.{get_or, length}
use lib.Dec.{eqb, ltb}
use Rattle.begin.specs.Begin.{alone}
use Rattle.gate.proofs.DecideLaws.{called_alone}
use Rattle.model.specs.declared.Call.{Call}
use Rattle.model.specs.declared.Call.TheVariants.{Leave, Look, Place, Stop, Take, Wake}
use Rattle.model.specs.declared.Gate.{Gate}
use Rattle.model.specs.declared.Record.{Record}
use Rattle.model.specs.declared.Refusal.{Refusal}
use Rattle.model.specs.Calls.{Outcome, call, called, called_in, idle_record, left_in, looked, marked, placed_in, record_of, refuse, taken_in, waits_invalid}
use Rattle.model.specs.Slices.{call_lent, length_is, lent, records}
use Rattle.model.specs.Sound.{idle, sound, ticket_of}
use Rattle.model.specs.Steps.{is_valid}
use Rattle.model.proofs.Logic.{by_bool}
use lib.Seq.{map-set_same}
use Rattle.model.proofs.SliceLaws.{Long, all_long, colours_of, marks_of, regions_of, slots_of, values_of}

-- A call leaves this field of every record.
abbrev pub Keeps : Call → (Record → ℕ) → Type 0
Keeps c f = (g : Gate) (r : Record) → f (get_or (alone c g r).list 0 idle_record) ≡ f r

module _ (f : Record → ℕ) where
  refuse_keeps : (b : Bool) (e : Refusal) (g : Gate) (r : Record) (o : Outcome) → f (get_or o.list 0 idle_record) ≡ f r
      → f (get_or (refuse b e g (r ∷ []) o).list 0 idle_record) ≡ f r
  refuse_keeps true e g r o h = refl
  refuse_keeps false e g r o h = h

  refused_list : (b : Bool) (e : Refusal) (g : Gate) (l : List Record) (o : Outcome) → map f o.list ≡ map f l → map f (refuse b e g l o).list ≡ map f l
  refused_list true e g l o h = refl
  refused_list false e g l o h = h

  -- Then the whole call does.
  call_keeps : (c : Call) → Keeps c f → (g : Gate) (l : List Record) (p : ℕ) → map f (call c g l p).list ≡ map f l
  unfolding call
  call_keeps c k g l p =
      refused_list (not (eqb (length l) g.n)) _ g l _ (refused_list (not (sound g l)) _ g l _ (refused_list (eqb p 0 || ltb g.n p) _ g l (called c g l p)
      (ap (λ (o : Outcome). map f o.list) (called_alone g l p c) ∙ map-set_same f l (p - 1) (get_or (alone c g (record_of l p)).list 0 idle_record) idle_record (k g (record_of l p)))))

-- Which fields which calls leave.
pub take_keeps : (f : Record → ℕ) → ((r : Record) (v c : ℕ) → f (record { region = 1; mark = r.mark; value = record { 0 = v }; colour = record { 0 = c }; slot = r.slot }) ≡ f r) → Keeps Take f
unfolding called_in taken_in
take_keeps f k g r = refuse_keeps f (eqb r.mark 1) _ g r _ (refuse_keeps f (not (eqb r.region 0)) _ g r _ (k r _ _))

pub look_keeps : (f : Record → ℕ) → ((r : Record) (s : ℕ) → f (record { region = 2; mark = r.mark; value = r.value; colour = r.colour; slot = record { 0 = s } }) ≡ f r) → Keeps Look f
unfolding called_in looked
look_keeps f k g r =
    refuse_keeps f (eqb r.mark 1) _ g r _ (refuse_keeps f (not (eqb r.region 1)) _ g r _
    (by_bool (is_valid g (ticket_of r)) (λ v. rw v (k r _)) (λ v. rw v refl)))

pub leave_keeps : (f : Record → ℕ)
    → ((r : Record) → f (record { region = 0; mark = r.mark; value = record { 0 = 0 }; colour = record { 0 = 0 }; slot = record { 0 = 0 } }) ≡ f r) → Keeps Leave f
unfolding called_in left_in
leave_keeps f k g r =
    refuse_keeps f (eqb r.mark 1) _ g r _ (refuse_keeps f (idle r) _ g r _ (refuse_keeps f (waits_invalid g r) _ g r _ (k r)))

pub place_keeps : (f : Record → ℕ) → Keeps Place f
unfolding called_in placed_in
place_keeps f g r = refuse_keeps f (eqb r.mark 1) _ g r _ (refuse_keeps f (not (eqb r.region 1)) _ g r _ refl)

pub stop_keeps : (f : Record → ℕ) → ((r : Record) (m : ℕ) → f (record { region = r.region; mark = m; value = r.value; colour = r.colour; slot = r.slot }) ≡ f r) → Keeps Stop f
unfolding called_in marked
stop_keeps f k g r = refuse_keeps f (eqb r.mark 1) _ g r _ (k r 1)

pub wake_keeps : (f : Record → ℕ) → ((r : Record) (m : ℕ) → f (record { region = r.region; mark = m; value = r.value; colour = r.colour; slot = r.slot }) ≡ f r) → Keeps Wake f
unfolding called_in marked
wake_keeps f k g r = refuse_keeps f (eqb r.mark 0) _ g r _ (k r 0)

-- So it leaves the slice of the field.
module _ (c : Call) (g : Gate) (rs ms vs cs ss : List ℕ) (p : ℕ) where
  kept : (f : Record → ℕ) (xs : List ℕ) → Keeps c f → ((h : length_is (lent rs ms vs cs ss) g.n ≡ true) → map f (records rs ms vs cs ss) ≡ xs)
      → (h : length_is (lent rs ms vs cs ss) g.n ≡ true) → map f (call c g (records rs ms vs cs ss) p).list ≡ xs
  kept f xs k e h = call_keeps f c k g (records rs ms vs cs ss) p ∙ e h

  w : length_is (lent rs ms vs cs ss) g.n ≡ true → Long rs ms vs cs ss g.n
  w h = all_long rs ms vs cs ss g.n h

  pub regions_kept : Keeps c (λ r. r.region) → (call_lent c g (lent rs ms vs cs ss) p).slices.regions ≡ rs
  unfolding call_lent
  regions_kept k = by_bool (length_is (lent rs ms vs cs ss) g.n) (λ h. rw h (kept (λ r. r.region) rs k (λ _. regions_of rs ms vs cs ss) h)) (λ h. rw h refl)

  pub marks_kept : Keeps c (λ r. r.mark) → (call_lent c g (lent rs ms vs cs ss) p).slices.marks ≡ ms
  unfolding call_lent
  marks_kept k = by_bool (length_is (lent rs ms vs cs ss) g.n) (λ h. rw h (kept (λ r. r.mark) ms k (λ i. marks_of rs ms vs cs ss ((w i).marks ∙ sym (w i).regions)) h)) (λ h. rw h refl)

  pub values_kept : Keeps c (λ r. r.value.0) → (call_lent c g (lent rs ms vs cs ss) p).slices.values ≡ vs
  unfolding call_lent
  values_kept k = by_bool (length_is (lent rs ms vs cs ss) g.n) (λ h. rw h (kept (λ r. r.value.0) vs k (λ i. values_of rs ms vs cs ss ((w i).values ∙ sym (w i).regions)) h)) (λ h. rw h refl)

  pub colours_kept : Keeps c (λ r. r.colour.0) → (call_lent c g (lent rs ms vs cs ss) p).slices.colours ≡ cs
  unfolding call_lent
  colours_kept k = by_bool (length_is (lent rs ms vs cs ss) g.n) (λ h. rw h (kept (λ r. r.colour.0) cs k (λ i. colours_of rs ms vs cs ss ((w i).colours ∙ sym (w i).regions)) h)) (λ h. rw h refl)

  pub slots_kept : Keeps c (λ r. r.slot.0) → (call_lent c g (lent rs ms vs cs ss) p).slices.slots ≡ ss
  unfolding call_lent
  slots_kept k = by_bool (length_is (lent rs ms vs cs ss) g.n) (λ h. rw h (kept (λ r. r.slot.0) ss k (λ i. slots_of rs ms vs cs ss ((w i).slots ∙ sym (w i).regions)) h)) (λ h. rw h refl)
