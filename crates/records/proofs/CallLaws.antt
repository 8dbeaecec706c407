-- What a call does to a list as a whole, and what it does to the list's slices.
--
-- Main statements: `call_touches` (a call changes at most the record of its plugin), `call_none` (and none where there is no such plugin),
-- `call_long` (a list of more than 1,024 is refused), `call_lent_lem` (the call on the slices of a list is the call on the list, whatever the
-- list's length); the same of alike: `alike_first_long`, `alike_second_long`, `alike_lent_lem`. About definitions alone: no function's proof
-- needs them.
use mathlib.Core.Path.{◌≡◌, refl, sym, ap, ◌∙◌}
use Prim.Native.Nat.{ℕ, ◌-◌, ◌<◌}
use mathlib.Core.Bool.{Bool, true, false, not, cond, ◌||◌}
use mathlib.Core.List.{List, map}
use native.Mathlib.Omega.{arith}
use lib.ListN.{length, get_or, set, length-map}
use lib.Seq.{set-get_or, get_or-set_same}
use lib.Dec.{eqb, ltb}
use borrow.Author.Tests.{eq-eqb, ne_eqb}
use Rattle.std.proofs.Common.{Err, Result}
use Rattle.model.specs.declared.Gate.{Gate}
use Rattle.model.specs.declared.Record.{Record}
use Rattle.model.specs.declared.Call.{Call}
use Rattle.model.specs.declared.Call.TheVariants.{Take, Look, Leave, Place, Stop, Wake}
use Rattle.model.specs.declared.Refusal.{Refusal}
use Rattle.model.specs.declared.Refusal.TheVariants.{WrongLength, NotSound, NoSuchPlugin, IsStopped, WrongRegion, NotStopped, NotYetValid}
use Rattle.model.specs.Alike.{alike}
use Rattle.model.specs.Calls.{Outcome, idle_record, record_of, refuse, call, called, called_in, taken, taken_in, looked, left, left_in, placed, placed_in, marked, waits_invalid}
use Rattle.model.specs.Slices.{lent_of, length_is, call_lent, on_slices, refused_lent, alike_lent}
use Rattle.model.specs.Sound.{idle, sound, ticket_of}
use Rattle.model.specs.Steps.{is_valid}
use Rattle.model.proofs.IsSound.{sound_use}
use Rattle.model.proofs.Logic.{by_bool, by_eq, clash, not_i}
use Rattle.model.proofs.SliceLaws.{lent_length, records_lent}

-- The list m is l but for the record at i.
pub record Touches (l : List Record) (i : ℕ) (m : List Record) : Type 0 where
  pub touches : m ≡ set l i (get_or m i idle_record)

module _ (l : List Record) (i : ℕ) (h : i < length l) where
  touches_none : Touches l i l
  touches_none = record { touches = sym (set-get_or l i idle_record) }

  touches_one : (x : Record) → Touches l i (set l i x)
  touches_one x = record { touches = ap (set l i) (sym (get_or-set_same l i x idle_record h)) }

  touches_refuse : (b : Bool) (n : Refusal) (g : Gate) (o : Outcome) → Touches l i o.list → Touches l i (refuse b n g l o).list
  touches_refuse true n g o t = touches_none
  touches_refuse false n g o t = t

  touches_cond : (b : Bool) (o o' : Outcome) → Touches l i o.list → Touches l i o'.list → Touches l i (cond b o o').list
  touches_cond true o o' t t' = t
  touches_cond false o o' t t' = t'

module _ (g : Gate) (l : List Record) (p : ℕ) (h : p - 1 < length l) where
  abbrev r : Record
  r = record_of l p

  called_touches : (c : Call) → Touches l (p - 1) (called c g l p).list
  unfolding called_in taken_in looked left_in placed_in marked
  called_touches Take = touches_refuse l (p - 1) h (eqb r.mark 1) IsStopped g _ (touches_refuse l (p - 1) h (not (eqb r.region 0)) WrongRegion g (taken g l p) (touches_one l (p - 1) h _))
  called_touches Look = touches_refuse l (p - 1) h (eqb r.mark 1) IsStopped g _ (touches_refuse l (p - 1) h (not (eqb r.region 1)) WrongRegion g (looked g l p) (touches_cond l (p - 1) h (is_valid g (ticket_of r)) _ _ (touches_one l (p - 1) h _) (touches_none l (p - 1) h)))
  called_touches Leave = touches_refuse l (p - 1) h (eqb r.mark 1) IsStopped g _ (touches_refuse l (p - 1) h (idle r) WrongRegion g _ (touches_refuse l (p - 1) h (waits_invalid g r) NotYetValid g (left g l p) (touches_one l (p - 1) h _)))
  called_touches Place = touches_refuse l (p - 1) h (eqb r.mark 1) IsStopped g _ (touches_refuse l (p - 1) h (not (eqb r.region 1)) WrongRegion g (placed g l p) (touches_none l (p - 1) h))
  called_touches Stop = touches_refuse l (p - 1) h (eqb r.mark 1) IsStopped g (marked 1 g l p) (touches_one l (p - 1) h _)
  called_touches Wake = touches_refuse l (p - 1) h (eqb r.mark 0) NotStopped g (marked 0 g l p) (touches_one l (p - 1) h _)

  pub call_touches : (c : Call) → Touches l (p - 1) (call c g l p).list
  unfolding call
  call_touches c =
      touches_refuse l (p - 1) h (not (eqb (length l) g.n)) WrongLength g _ (touches_refuse l (p - 1) h (not (sound g l)) NotSound g _
      (touches_refuse l (p - 1) h (eqb p 0 || ltb g.n p) NoSuchPlugin g (called c g l p) (called_touches c)))

refuse_same : (b : Bool) (n : Refusal) (g : Gate) (l : List Record) (o : Outcome) → o.list ≡ l → (refuse b n g l o).list ≡ l
refuse_same true n g l o e = refl
refuse_same false n g l o e = e

refused_list : (b : Bool) (n : Refusal) (g : Gate) (l : List Record) (o : Outcome) → b ≡ true → (refuse b n g l o).list ≡ l
refused_list b n g l o e = rw e refl

-- No plugin of a list of n records has the number p.
abbrev pub no_plugin : ℕ → ℕ → Bool
no_plugin n p = eqb p 0 || ltb n p

pub call_none : (c : Call) (g : Gate) (l : List Record) (p : ℕ) → no_plugin (length l) p ≡ true → (call c g l p).list ≡ l
unfolding call
call_none c g l p none = by_eq (length l) g.n
    (λ e. refuse_same (not (eqb (length l) g.n)) WrongLength g l _ (refuse_same (not (sound g l)) NotSound g l _
    (refused_list (eqb p 0 || ltb g.n p) NoSuchPlugin g l (called c g l p) (ap (λ (m : ℕ). eqb p 0 || ltb m p) (sym e) ∙ none))))
    (λ d. refused_list (not (eqb (length l) g.n)) WrongLength g l _ (ap not (ne_eqb _ _ d)))

-- "N is 1 to 1,024": a gate with more records is not sound.
sound_short : (g : Gate) (l : List Record) → 1024 < g.n → sound g l ≡ false
sound_short g l h = not_i (sound g l) (λ e. absurd (omega (arith, (sound_use g l e).n_high)))

pub call_long : (c : Call) (g : Gate) (l : List Record) (p : ℕ) → 1024 < length l
    → call c g l p ≡ record { gate = g; list = l; answer = Err (cond (eqb (length l) g.n) NotSound WrongLength) }
unfolding call
call_long c g l p h = by_eq (length l) g.n
    (λ e. rw (eq-eqb _ _ e, sound_short g l (omega (arith, e))) refl)
    (λ d. rw (ne_eqb _ _ d) refl)

-- The slices of a list have the length n just where the list has it.
lent_other : (l : List Record) (n : ℕ) → (length l ≡ n → ⊥) → length_is (lent_of l) n ≡ false
unfolding length_is
lent_other l n d = rw (ne_eqb (length (map (λ (r : Record). r.region) l)) n (λ e. d (sym (length-map l (λ (r : Record). r.region)) ∙ e))) refl

refused_lent_lem : (c : Call) (g : Gate) (l : List Record) (p : ℕ) → (length l ≡ g.n → ⊥) → refused_lent WrongLength g (lent_of l) ≡ on_slices (call c g l p)
unfolding call
refused_lent_lem c g l p d = rw (ne_eqb (length l) g.n d) refl

pub call_lent_lem : (c : Call) (g : Gate) (l : List Record) (p : ℕ) → call_lent c g (lent_of l) p ≡ on_slices (call c g l p)
unfolding call_lent
call_lent_lem c g l p = by_eq (length l) g.n
    (λ e. rw (lent_length l g.n e, records_lent l) refl)
    (λ d. rw (lent_other l g.n d) (refused_lent_lem c g l p d))

-- The refusal of two gates with lists of n and m records, of which one is more than 1,024: 2 for the first, 2 for the second, else 3, since that
-- one's N is then out of range.
unfoldable pub unread_long : Gate → ℕ → Gate → ℕ → Result Bool Refusal
unread_long g n h m = cond (eqb n g.n) (cond (eqb m h.n) (Err NotSound) (Err WrongLength)) (Err WrongLength)

-- Two gates of which one has a list of more than 1,024.
alike_long : (g : Gate) (l : List Record) (h : Gate) (m : List Record) → (length l ≡ g.n → length m ≡ h.n → sound g l ≡ true → sound h m ≡ false) → alike g l h m ≡ unread_long g (length l) h (length m)
unfolding alike unread_long
alike_long g l h m unsound = by_eq (length l) g.n
    (λ e. by_eq (length m) h.n
    (λ e'. by_bool (sound g l) (λ s. rw (eq-eqb _ _ e, eq-eqb _ _ e', s, unsound e e' s) refl) (λ s. rw (eq-eqb _ _ e, eq-eqb _ _ e', s) refl))
    (λ d. rw (eq-eqb _ _ e, ne_eqb _ _ d) refl))
    (λ d. rw (ne_eqb _ _ d) refl)

pub alike_first_long : (g : Gate) (l : List Record) (h : Gate) (m : List Record) → 1024 < length l → alike g l h m ≡ unread_long g (length l) h (length m)
alike_first_long g l h m long = alike_long g l h m (λ e e' s. clash (sound g l) s (sound_short g l (omega (arith, e))))

pub alike_second_long : (g : Gate) (l : List Record) (h : Gate) (m : List Record) → 1024 < length m → alike g l h m ≡ unread_long g (length l) h (length m)
alike_second_long g l h m long = alike_long g l h m (λ e e' s. sound_short h m (omega (arith, e')))

pub alike_lent_lem : (g : Gate) (l : List Record) (h : Gate) (m : List Record) → alike_lent g (lent_of l) h (lent_of m) ≡ alike g l h m
unfolding alike_lent alike
alike_lent_lem g l h m = by_eq (length l) g.n
    (λ e. by_eq (length m) h.n
    (λ e'. rw (lent_length l g.n e, lent_length m h.n e', records_lent l, records_lent m) refl)
    (λ d. rw (lent_length l g.n e, lent_other m h.n d, eq-eqb _ _ e, ne_eqb _ _ d) refl))
    (λ d. rw (lent_other l g.n d, ne_eqb _ _ d) refl)
