-- `soundness::pass::list_is_sound` answers `sound g` of the lent list. Each early return cites the clause that is broken, and the last two
-- `verdict`: what passes every test is sound.
use mathlib.Core.Path.{ap, refl, ◌∙◌, ◌≡◌}
use native.Mathlib.Omega.{arith}
use Rattle.std.proofs.Common.{rules}
use Prim.Native.Nat.{ℕ, ◌+◌, ◌-◌, ◌<◌}
use mathlib.Core.Logic.{◌≢◌}
use lib.ListN.{get_or, length}
use borrow.Author.Tests.{ne_eqb}
use Rattle.model.specs.declared.Record.{Record}
use Rattle.model.specs.Calls.{idle_record}
use Rattle.model.proofs.Logic.{not_not}
use Rattle.soundness.specs.declared.slots.Slots.{Slots}
use Rattle.soundness.specs.Others.{code_of}
use Rattle.soundness.proofs.PassLaws.{Turn, asks_bounds, asks_k, asks_k_low, bin_few, in_list, other_below, others_ahead, others_few, others_full, others_own, others_twice, pass_idle, pass_other, pass_place, pass_start, pass_to, past_list, place_after, turn_i}
use Rattle.soundness.proofs.MetLaws.{slots_next, slots_right, slots_start, slots_to, unsound_early, unsound_late, unsound_slot, unsound_unmet, used_few}
use Rattle.soundness.proofs.SizeLaws.{few_bytes}
use Rattle.soundness.proofs.Verdict.{places_of, unsound_counts, unsound_others, unsound_record, unsound_short, unsound_twice, unsound_unheld, verdict}
use Rattle.soundness.proofs.pass.list_is_sound.Goals as goal
use Rattle.soundness.proofs.pass.list_is_sound.Goals.{in-Idle+else-not-note_of, in-Other+else-not-note_of-3+else-len-number+else-not-insert, in-Place+else-not-note_of-2+else-bins-at-ne0}

pub overflow_sub-from : goal.overflow_sub-from
overflow_sub-from g c = omega (arith, (asks_bounds c.requires.words).ahead_most, c.from.ensures)

pub none-slots-requires : goal.none-slots-requires
none-slots-requires g c = (asks_k_low c.requires.words, (asks_bounds c.requires.words).k_most)

pub shared_ref_as_front-row : goal.shared_ref_as_front-row
shared_ref_as_front-row g c =
    let used = c.from-2.ensures ∙ c.places_used.ensures in
    used_few c.args.g.now (search rules) used

pub returns-then-not-note_row : goal.returns-then-not-note_row
returns-then-not-note_row g c =
    let pre = c.requires.words in
    let used = c.from-2.ensures ∙ c.places_used.ensures in
    unsound_early c.args.g.now (search rules) used (search rules) _ (asks_k pre) c.none-slots.ensures c.note_row.ensures c.if-not-note_row.true

pub returns-then-not-note_row-2 : goal.returns-then-not-note_row-2
returns-then-not-note_row-2 g c =
    let pre = c.requires.words in
    let done = past_list (g.met.L.Plugins.counted c.args.list.now c.args.g.now.n c.requires.long) c.from-i-end.ensures c.loop-i-test.false in
    let used = c.from-2.ensures ∙ c.places_used.ensures in
    unsound_late c.args.g.now (search rules) used (search rules) _ (asks_k pre) c.none-slots.ensures c.note_row.ensures c.if-not-note_row.false c.loop-i.invariant.slots done
    c.note_row-2.ensures c.if-not-note_row-2.true

pub loop-i-init : goal.loop-i-init
loop-i-init g c =
    let pre = c.requires.words in
    let used = c.from-2.ensures ∙ c.places_used.ensures in
    record {
      passed = rw c.new-others.ensures (pass_start pre _);
      slots = slots_start c.args.g.now (search rules) used (search rules) _ (asks_k pre) c.none-slots.ensures c.note_row.ensures c.if-not-note_row.false;
    }

pub class_of_record-requires : goal.class_of_record-requires
class_of_record-requires g c =
    asks_bounds c.requires.words

pub returns-in_default : goal.returns-in_default
returns-in_default g c =
    let pre = c.requires.words in
    let within = in_list (g.met.L.Plugins.counted c.args.list.now c.args.g.now.n c.requires.long) c.from-i-end.ensures c.loop-i-test.true in
    unsound_record pre _ within (c.record-record.ensures idle_record) c.in_default.ensures

pub returns-then-not-note_of : goal.returns-then-not-note_of
returns-then-not-note_of g c =
    let pre = c.requires.words in
    let within = in_list (g.met.L.Plugins.counted c.args.list.now c.args.g.now.n c.requires.long) c.from-i-end.ensures c.loop-i-test.true in
    let used = c.from-2.ensures ∙ c.places_used.ensures in
    unsound_slot c.args.g.now (search rules) used (search rules) _ (asks_k pre) c.none-slots.ensures c.note_row.ensures c.if-not-note_row.false c.loop-i.invariant.slots within
    (c.record-record.ensures idle_record) c.note_of.ensures c.if-not-note_of.true

pub returns-then-not-note_of-2 : goal.returns-then-not-note_of-2
returns-then-not-note_of-2 g c =
    let pre = c.requires.words in
    let within = in_list (g.met.L.Plugins.counted c.args.list.now c.args.g.now.n c.requires.long) c.from-i-end.ensures c.loop-i-test.true in
    let used = c.from-2.ensures ∙ c.places_used.ensures in
    unsound_slot c.args.g.now (search rules) used (search rules) _ (asks_k pre) c.none-slots.ensures c.note_row.ensures c.if-not-note_row.false c.loop-i.invariant.slots within
    (c.record-record.ensures idle_record) c.note_of-in-Place.ensures c.if-not-note_of-2.true

pub returns-then-not-note_of-3 : goal.returns-then-not-note_of-3
returns-then-not-note_of-3 g c =
    let pre = c.requires.words in
    let within = in_list (g.met.L.Plugins.counted c.args.list.now c.args.g.now.n c.requires.long) c.from-i-end.ensures c.loop-i-test.true in
    let used = c.from-2.ensures ∙ c.places_used.ensures in
    unsound_slot c.args.g.now (search rules) used (search rules) _ (asks_k pre) c.none-slots.ensures c.note_row.ensures c.if-not-note_row.false c.loop-i.invariant.slots within
    (c.record-record.ensures idle_record) c.note_of-in-Other.ensures c.if-not-note_of-3.true

pub returns-then-bins-at-ne0 : goal.returns-then-bins-at-ne0
returns-then-bins-at-ne0 g c =
    let pre = c.requires.words in
    let within = in_list (g.met.L.Plugins.counted c.args.list.now c.args.g.now.n c.requires.long) c.from-i-end.ensures c.loop-i-test.true in
    let t = turn_i pre within (c.record-record.ensures idle_record) c.in-Some.ensures c.in-Place.is in
    unsound_twice pre _ t c.loop-i.invariant.passed (omega (arith, c.from-at.ensures)) (place_after _ c.in-Some.ensures c.in-Place.is) (λ (e : get_or c.loop-i.bins (65 + c.from-at.result) 0 ≡ 0). omega (arith, e, c.if-bins-at-ne0.true))

pub returns-then-len-number : goal.returns-then-len-number
returns-then-len-number g c =
    let pre = c.requires.words in
    let within = in_list (g.met.L.Plugins.counted c.args.list.now c.args.g.now.n c.requires.long) c.from-i-end.ensures c.loop-i-test.true in
    let t = turn_i pre within (c.record-record.ensures idle_record) c.in-Some.ensures c.in-Other.is in
    unsound_others pre _
    (others_full t c.loop-i.invariant.passed (other_below t) (omega (arith, c.len.ensures, c.from-number.ensures, c.from.ensures, c.if-len-number.true)))

pub returns-then-not-insert : goal.returns-then-not-insert
returns-then-not-insert g c =
    let pre = c.requires.words in
    let within = in_list (g.met.L.Plugins.counted c.args.list.now c.args.g.now.n c.requires.long) c.from-i-end.ensures c.loop-i-test.true in
    let t = turn_i pre within (c.record-record.ensures idle_record) c.in-Some.ensures c.in-Other.is in
    unsound_others pre _ (others_twice t c.loop-i.invariant.passed (other_below t) (ap (λ (r : Record). code_of r.value.0 r.colour.0) (c.record-record.ensures idle_record)) (rw c.ticket.ensures at c.insert.ensures) c.if-not-insert.true)

pub overflow_add-bins : goal.overflow_add-bins
overflow_add-bins g c =
    let pre = c.requires.words in
    let within = in_list (g.met.L.Plugins.counted c.args.list.now c.args.g.now.n c.requires.long) c.from-i-end.ensures c.loop-i-test.true in
    let t : Turn c.args.lead (g.L.Plugins.items c.args.list.now) c.loop-i.i (get_or (g.L.Plugins.items c.args.list.now) c.loop-i.i idle_record).colour.0 =
    turn_i pre within (c.record-record.ensures idle_record) c.in-Some.ensures c.in-Other.is in
    omega (arith, bin_few t c.loop-i.invariant.passed (other_below t), ap (λ (x : ℕ). get_or c.loop-i.bins x 0) (c.from-in-Other.ensures ∙ ap (λ (r : Record). r.colour.0) (c.record-record.ensures idle_record)))

pub loop-i-preserved : goal.loop-i-preserved
loop-i-preserved g c =
    let pre = c.requires.words in
    let within = in_list (g.met.L.Plugins.counted c.args.list.now c.args.g.now.n c.requires.long) c.from-i-end.ensures c.loop-i-test.true in
    elim c.match-class.branch [
      -- An idle record.
      | in-Idle+else-not-note_of w ↦
          let t = turn_i pre within (c.record-record.ensures idle_record) c.in-Some.ensures w.in-Idle.is in
          record {
            passed = pass_to w.bins-is w.others-is (pass_idle t refl c.loop-i.invariant.passed);
            slots =
                slots_to (ap (λ (s : Slots). s.met) w.slots-is)
                (slots_next c.loop-i.invariant.slots within (c.record-record.ensures idle_record) w.note_of.ensures w.if-not-note_of.false);
          }
      -- A place after VALID.
      | in-Place+else-not-note_of-2+else-bins-at-ne0 w ↦
          let t = turn_i pre within (c.record-record.ensures idle_record) c.in-Some.ensures w.in-Place.is in
          record {
            passed =
                pass_to w.bins-is w.others-is
                (pass_place t (omega (arith, w.from-at.ensures)) (place_after _ c.in-Some.ensures w.in-Place.is) (omega (arith, w.if-bins-at-ne0.false)) c.loop-i.invariant.passed);
            slots =
                slots_to (ap (λ (s : Slots). s.met) w.slots-is)
                (slots_next c.loop-i.invariant.slots within (c.record-record.ensures idle_record) w.note_of-in-Place.ensures w.if-not-note_of-2.false);
          }
      -- Another ticket.
      | in-Other+else-not-note_of-3+else-len-number+else-not-insert w ↦
          let t = turn_i pre within (c.record-record.ensures idle_record) c.in-Some.ensures w.in-Other.is in
          record {
            passed =
                pass_to w.bins-is w.others-is
                (pass_other t c.loop-i.invariant.passed (other_below t) (ap (λ (r : Record). code_of r.value.0 r.colour.0) (c.record-record.ensures idle_record)) (rw w.ticket.ensures at w.insert.ensures)
                (w.from-in-Other.ensures ∙ ap (λ (r : Record). r.colour.0) (c.record-record.ensures idle_record))
                (λ e. w.if-len-number.false (omega (arith, e, w.len.ensures, c.from-number.ensures, c.from.ensures))) w.if-not-insert.false);
            slots =
                slots_to (ap (λ (s : Slots). s.met) w.slots-is)
                (slots_next c.loop-i.invariant.slots within (c.record-record.ensures idle_record) w.note_of-in-Other.ensures w.if-not-note_of-3.false);
          }
    ]

pub returns-then-not-all_met : goal.returns-then-not-all_met
returns-then-not-all_met g c =
    let pre = c.requires.words in
    let done = past_list (g.met.L.Plugins.counted c.args.list.now c.args.g.now.n c.requires.long) c.from-i-end.ensures c.loop-i-test.false in
    let used = c.from-2.ensures ∙ c.places_used.ensures in
    unsound_unmet c.args.g.now (search rules) used (search rules) _ (asks_k pre) c.none-slots.ensures c.note_row.ensures c.if-not-note_row.false c.loop-i.invariant.slots done
    c.note_row-2.ensures c.if-not-note_row-2.false c.all_met.ensures c.if-not-all_met.true

pub returns-then-len-number-2 : goal.returns-then-len-number-2
returns-then-len-number-2 g c =
    let pre = c.requires.words in
    let done = past_list (g.met.L.Plugins.counted c.args.list.now c.args.g.now.n c.requires.long) c.from-i-end.ensures c.loop-i-test.false in
    unsound_others pre _ (others_few pre c.loop-i.invariant.passed done (λ e. omega (arith, e, c.len-2.ensures, c.from-number.ensures, c.from.ensures, c.if-len-number-2.true)))

pub returns-then-not-each_one : goal.returns-then-not-each_one
returns-then-not-each_one g c =
    let pre = c.requires.words in
    let done = past_list (g.met.L.Plugins.counted c.args.list.now c.args.g.now.n c.requires.long) c.from-i-end.ensures c.loop-i-test.false in
    unsound_unheld pre _ c.loop-i.invariant.passed done (places_of c.loop-i.bins c.from-3.ensures c.each_one.ensures) c.if-not-each_one.true

pub subtract_spare-requires : goal.subtract_spare-requires
subtract_spare-requires g c =
    asks_bounds c.requires.words

pub returns-in_default-subtract_spare : goal.returns-in_default-subtract_spare
returns-in_default-subtract_spare g c = unsound_short c.requires.words _ (rw c.in_default-subtract_spare.is at c.subtract_spare.ensures)

pub returns-then-not-equal_bins : goal.returns-then-not-equal_bins
returns-then-not-equal_bins g c =
    let pre = c.requires.words in
    let done = past_list (g.met.L.Plugins.counted c.args.list.now c.args.g.now.n c.requires.long) c.from-i-end.ensures c.loop-i-test.false in
    unsound_counts pre _ c.loop-i.invariant.passed done _ (c.equal_bins.ensures ∙ (rw c.in-Some-subtract_spare.is at c.subtract_spare.ensures) c.loop-i.bins) c.if-not-equal_bins.true

pub returns-then-lead-ne0 : goal.returns-then-lead-ne0
returns-then-lead-ne0 g c =
    let pre = c.requires.words in
    let done = past_list (g.met.L.Plugins.counted c.args.list.now c.args.g.now.n c.requires.long) c.from-i-end.ensures c.loop-i-test.false in
    let used = c.from-2.ensures ∙ c.places_used.ensures in
    rw (not_not _ (ne_eqb _ _ c.if-lead-ne0.true)) (verdict pre _ c.loop-i.invariant.passed done _ (slots_right c.args.g.now (search rules) used (search rules) _ (asks_k pre) c.none-slots.ensures c.note_row.ensures c.if-not-note_row.false c.loop-i.invariant.slots done c.note_row-2.ensures c.if-not-note_row-2.false c.all_met.ensures c.if-not-all_met.false) (places_of c.loop-i.bins c.from-3.ensures c.each_one.ensures) c.if-not-each_one.false
    (c.equal_bins.ensures ∙ (rw c.in-Some-subtract_spare.is at c.subtract_spare.ensures) c.loop-i.bins) c.if-not-equal_bins.false
    (others_ahead pre c.loop-i.invariant.passed done (omega (arith, c.len-2.ensures, c.from-number.ensures, c.from.ensures, c.if-len-number-2.false)) c.if-lead-ne0.true))

pub returns-else-lead-ne0 : goal.returns-else-lead-ne0
returns-else-lead-ne0 g c =
    let pre = c.requires.words in
    let done = past_list (g.met.L.Plugins.counted c.args.list.now c.args.g.now.n c.requires.long) c.from-i-end.ensures c.loop-i-test.false in
    let used = c.from-2.ensures ∙ c.places_used.ensures in
    verdict pre _ c.loop-i.invariant.passed done _ (slots_right c.args.g.now (search rules) used (search rules) _ (asks_k pre) c.none-slots.ensures c.note_row.ensures c.if-not-note_row.false c.loop-i.invariant.slots done c.note_row-2.ensures c.if-not-note_row-2.false c.all_met.ensures c.if-not-all_met.false) (places_of c.loop-i.bins c.from-3.ensures c.each_one.ensures) c.if-not-each_one.false
    (c.equal_bins.ensures ∙ (rw c.in-Some-subtract_spare.is at c.subtract_spare.ensures) c.loop-i.bins) c.if-not-equal_bins.false
    (others_own pre c.loop-i.invariant.passed done (omega (arith, c.len-2.ensures, c.from-number.ensures, c.from.ensures, c.if-len-number-2.false)) c.if-lead-ne0.false refl c.contains.ensures)

pub new-others-requires : goal.new-others-requires
new-others-requires g c = (few_bytes g.row.ROOM g.row.RESIDUES c.requires.room.1 c.requires.residues.1, c.requires.residues.0)

pub len-requires : goal.len-requires
len-requires g c = few_bytes g.row.ROOM g.row.RESIDUES c.requires.room.1 c.requires.residues.1

pub len-requires-2 : goal.len-requires-2
len-requires-2 g c = few_bytes g.row.ROOM g.row.RESIDUES c.requires.room.1 c.requires.residues.1

pub contains-requires : goal.contains-requires
contains-requires g c = few_bytes g.row.ROOM g.row.RESIDUES c.requires.room.1 c.requires.residues.1

pub insert-requires : goal.insert-requires
insert-requires g c =
    let more : length c.loop-i.others ≢ c.args.lead.k - c.args.lead.ahead = λ e. c.if-len-number.false (omega (arith, e, c.len.ensures, c.from-number.ensures, c.from.ensures)) in
    let short : length c.loop-i.others < g.row.ROOM = omega (arith, c.requires.room.0, c.loop-i.invariant.passed.few, more) in
    (few_bytes g.row.ROOM g.row.RESIDUES c.requires.room.1 c.requires.residues.1, short)
