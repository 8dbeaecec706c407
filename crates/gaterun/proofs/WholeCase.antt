-- What gaterun prints for document 01's whole case is what the paper shows, byte for byte, by computation.
use mathlib.Core.Path.{refl, ◌≡◌}
use Rattle.driver.specs.Playing.{after_call, after_open, played, played_in, transcript, turn}
use Rattle.model.specs.Calls.{call, called_in, free_slots, left_in, looked, taken_in}
use Rattle.model.specs.Opening.{open_gate, open_in_range}
use Rattle.model.specs.Lists.{all, all_below, any, count, numbers_from}
use Rattle.model.specs.Schedule.{call_line, digits, next_call, number_from, read_call, read_line, read_open, starts_number}
use Rattle.model.specs.Sound.{ahead, behind, count_right, counts_above_zero, counts_right, free_in_order, lead_range_in, next_place, none_above_issue, none_pending_inside, others_number_k, pending_in, pending_awaited, places, record_in_range, records_in_range, slot_in_range, slot_once, slots_sound, sound_in, spare_in, ticket_in_range, tickets_distinct, valid_colour_unheld, valid_held, words_range_in, year_in_range}
use Rattle.model.specs.Steps.{block, block_size, free_colour, is_valid, leads, moved, new_colour, next_colour, scan, year_block}
use Rattle.transcript.specs.Lines.{answer_text, call_line_text, decimal, decimal_in, open_line_text, ticket_text}
use Rattle.gaterun.specs.WholeCase.{bytes, printed, schedule}

pub whole_case : transcript (bytes schedule) ≡ bytes printed
unfolding bytes transcript played played_in turn after_call after_open next_call read_line read_call read_open call_line starts_number digits number_from answer_text call_line_text open_line_text ticket_text decimal decimal_in open_gate open_in_range call called_in left_in looked taken_in sound_in counts_right count_right none_pending_inside valid_held others_number_k pending_awaited valid_colour_unheld none_above_issue tickets_distinct lead_range_in records_in_range record_in_range counts_above_zero words_range_in year_in_range ticket_in_range spare_in pending_in places next_place behind ahead is_valid moved new_colour scan free_colour next_colour leads year_block block block_size slots_sound slot_once slot_in_range free_in_order free_slots numbers_from all_below any all count
whole_case = refl
