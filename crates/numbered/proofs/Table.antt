-- The runs of specs/Table.antt are what the definitions give, by computation.
use mathlib.Core.Path.{refl, ◌≡◌}
use mathlib.Core.Bool.{false}
use mathlib.Core.List.{[], ◌∷◌}
use Rattle.model.specs.Lists.{all, any, count, numbers_from}
use Rattle.model.specs.Table.{leave_calls, place_calls, worked_calls}
use Rattle.numbered.specs.Sound.{held_distinct, held_issued, idle_tickets_zero, last_valid_held, later_awaited, lead_within_bounds, regions_in_range, sizes_allowed, sound_numbered, valid_number_k}
use Rattle.numbered.specs.Calls.{call_numbered, called_numbered, left_numbered, looked_numbered, marked_numbered, opened_numbered, placed_numbered, taken_numbered}
use Rattle.numbered.specs.Table.{end_calls, end_rows, lead_bound_cases, leave_numbers, near_end, near_end_list, numbered_rows, out_of_range_cases, place_numbers, worked_numbers, wrong_lead_cases, wrong_ticket_cases}

pub worked_numbers_lem : numbered_rows (opened_numbered 3 1).gate (opened_numbered 3 1).list worked_calls ≡ worked_numbers
unfolding numbered_rows call_numbered called_numbered taken_numbered looked_numbered left_numbered sound_numbered sizes_allowed regions_in_range idle_tickets_zero held_distinct held_issued lead_within_bounds later_awaited valid_number_k last_valid_held numbers_from any all count
worked_numbers_lem = refl

pub place_numbers_lem : numbered_rows (opened_numbered 4 2).gate (opened_numbered 4 2).list place_calls ≡ place_numbers
unfolding numbered_rows call_numbered called_numbered taken_numbered looked_numbered left_numbered placed_numbered sound_numbered sizes_allowed regions_in_range idle_tickets_zero held_distinct held_issued lead_within_bounds later_awaited valid_number_k last_valid_held numbers_from any all count
place_numbers_lem = refl

pub leave_numbers_lem : numbered_rows (opened_numbered 3 1).gate (opened_numbered 3 1).list leave_calls ≡ leave_numbers
unfolding numbered_rows call_numbered called_numbered taken_numbered left_numbered placed_numbered marked_numbered sound_numbered sizes_allowed regions_in_range idle_tickets_zero held_distinct held_issued lead_within_bounds later_awaited valid_number_k last_valid_held numbers_from any all count
leave_numbers_lem = refl

pub end_of_counters : numbered_rows near_end near_end_list end_calls ≡ end_rows
unfolding numbered_rows call_numbered called_numbered taken_numbered looked_numbered left_numbered placed_numbered marked_numbered sound_numbered sizes_allowed regions_in_range idle_tickets_zero held_distinct held_issued lead_within_bounds later_awaited valid_number_k last_valid_held numbers_from any all count
end_of_counters = refl

-- Each sentence of soundness excludes what no other does.
pub ranges_needed : out_of_range_cases ≡ false ∷ false ∷ false ∷ false ∷ []
unfolding sound_numbered sizes_allowed regions_in_range idle_tickets_zero held_distinct held_issued lead_within_bounds later_awaited valid_number_k last_valid_held numbers_from any all count
ranges_needed = refl

pub tickets_needed : wrong_ticket_cases ≡ false ∷ false ∷ false ∷ []
unfolding sound_numbered sizes_allowed regions_in_range idle_tickets_zero held_distinct held_issued lead_within_bounds later_awaited valid_number_k last_valid_held numbers_from any all count
tickets_needed = refl

pub lead_needed : wrong_lead_cases ≡ false ∷ false ∷ false ∷ []
unfolding sound_numbered sizes_allowed regions_in_range idle_tickets_zero held_distinct held_issued lead_within_bounds later_awaited valid_number_k last_valid_held numbers_from any all count
lead_needed = refl

pub bounds_needed : lead_bound_cases ≡ false ∷ []
unfolding sound_numbered sizes_allowed regions_in_range idle_tickets_zero held_distinct held_issued lead_within_bounds later_awaited valid_number_k last_valid_held numbers_from any all count
bounds_needed = refl
