-- The worked comparisons are what the definitions give, by computation.
use mathlib.Core.Path.{refl, ◌≡◌}
use Rattle.std.specs.Prelude.{Ok, false, true}
use Rattle.model.specs.Calls.{after, call, called_in, free_slots, left_in, marked, taken_in}
use Rattle.model.specs.Alike.{alike, alike_in, compared, same_order, same_plugin}
use Rattle.model.specs.Comparisons.{after_one_handed_back, after_three_handed_back, compared_after, in_order, one_stopped, second_before_first, third_before_second}
use Rattle.model.specs.Lists.{all, all_below, any, count, numbers_from}
use Rattle.model.specs.Sound.{ahead, behind, count_right, counts_above_zero, counts_right, free_in_order, lead_range_in, next_place, none_above_issue, none_pending_inside, others_number_k, pending_in, pending_awaited, places, record_in_range, records_in_range, slot_in_range, slot_once, slots_sound, sound_in, spare_in, ticket_in_range, tickets_distinct, valid_colour_unheld, valid_held, words_range_in, year_in_range}
use Rattle.model.specs.Steps.{block, block1979, block_size, distance_in, free_colour, is_valid, leads, moved, new_colour, next_colour, scan, year_block}

pub other_order : compared_after 1989 1989 3 1 in_order third_before_second ≡ Ok false
unfolding after alike compared alike_in same_plugin same_order distance_in call called_in left_in taken_in sound_in counts_right count_right none_pending_inside valid_held others_number_k pending_awaited valid_colour_unheld none_above_issue tickets_distinct lead_range_in records_in_range record_in_range counts_above_zero words_range_in year_in_range ticket_in_range spare_in pending_in places next_place behind ahead is_valid moved new_colour scan free_colour next_colour leads year_block block block_size slots_sound slot_once slot_in_range free_in_order free_slots numbers_from all_below any all count
other_order = refl

pub other_validity : compared_after 1989 1989 3 1 in_order second_before_first ≡ Ok false
unfolding after alike compared alike_in same_plugin same_order distance_in call called_in left_in taken_in sound_in counts_right count_right none_pending_inside valid_held others_number_k pending_awaited valid_colour_unheld none_above_issue tickets_distinct lead_range_in records_in_range record_in_range counts_above_zero words_range_in year_in_range ticket_in_range spare_in pending_in places next_place behind ahead is_valid moved new_colour scan free_colour next_colour leads year_block block block_size slots_sound slot_once slot_in_range free_in_order free_slots numbers_from all_below any all count
other_validity = refl

pub order_of_valid : compared_after 1989 1989 3 2 in_order second_before_first ≡ Ok true
unfolding after alike compared alike_in same_plugin same_order distance_in call called_in left_in taken_in sound_in counts_right count_right none_pending_inside valid_held others_number_k pending_awaited valid_colour_unheld none_above_issue tickets_distinct lead_range_in records_in_range record_in_range counts_above_zero words_range_in year_in_range ticket_in_range spare_in pending_in places next_place behind ahead is_valid moved new_colour scan free_colour next_colour leads year_block block block_size slots_sound slot_once slot_in_range free_in_order free_slots numbers_from all_below any all count
order_of_valid = refl

pub other_mark : compared_after 1989 1989 3 1 in_order one_stopped ≡ Ok false
unfolding after alike compared alike_in same_plugin same_order distance_in call called_in left_in marked taken_in sound_in counts_right count_right none_pending_inside valid_held others_number_k pending_awaited valid_colour_unheld none_above_issue tickets_distinct lead_range_in records_in_range record_in_range counts_above_zero words_range_in year_in_range ticket_in_range spare_in pending_in places next_place behind ahead is_valid moved new_colour scan free_colour next_colour leads year_block block block_size slots_sound slot_once slot_in_range free_in_order free_slots numbers_from all_below any all count
other_mark = refl

pub other_values : compared_after 1989 1989 3 1 in_order after_one_handed_back ≡ Ok true
unfolding after alike compared alike_in same_plugin same_order distance_in call called_in left_in taken_in sound_in counts_right count_right none_pending_inside valid_held others_number_k pending_awaited valid_colour_unheld none_above_issue tickets_distinct lead_range_in records_in_range record_in_range counts_above_zero words_range_in year_in_range ticket_in_range spare_in pending_in places next_place behind ahead is_valid moved new_colour scan free_colour next_colour leads year_block block block_size slots_sound slot_once slot_in_range free_in_order free_slots numbers_from all_below any all count
other_values = refl

pub other_colours : compared_after 1989 1989 3 1 in_order after_three_handed_back ≡ Ok true
unfolding after alike compared alike_in same_plugin same_order distance_in call called_in left_in taken_in sound_in counts_right count_right none_pending_inside valid_held others_number_k pending_awaited valid_colour_unheld none_above_issue tickets_distinct lead_range_in records_in_range record_in_range counts_above_zero words_range_in year_in_range ticket_in_range spare_in pending_in places next_place behind ahead is_valid moved new_colour scan free_colour next_colour leads year_block block block_size slots_sound slot_once slot_in_range free_in_order free_slots numbers_from all_below any all count
other_colours = refl

pub other_year : compared_after 1979 1989 3 1 in_order after_one_handed_back ≡ Ok true
unfolding after alike compared alike_in same_plugin same_order distance_in call called_in left_in taken_in sound_in counts_right count_right none_pending_inside valid_held others_number_k pending_awaited valid_colour_unheld none_above_issue tickets_distinct lead_range_in records_in_range record_in_range counts_above_zero words_range_in year_in_range ticket_in_range spare_in pending_in places next_place behind ahead is_valid moved new_colour scan free_colour next_colour leads year_block block1979 block block_size slots_sound slot_once slot_in_range free_in_order free_slots numbers_from all_below any all count
other_year = refl
