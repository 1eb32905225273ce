-- `unfolding opened-sets` opens every definition of a set, for a statement that computes.
use Rattle.sets.specs.Set.{first_record, series_records, edition_record, regular_record, complex_record, by_id, legging_record, legging_records, generation_record, generation_records, reached_records, set_of, joined, set_length, behind, held_from, held_in, tells_regular, tells_complex, tells_edition, tells_legging, tells_generation, part, sort_key, generation_told, may_follow, in_order, count_of, of_series, few_enough, of_whole, of_short, series_then, is_set, places, regular_told, complex_told, edition_told, listed_told, legging_told, generations_told, reached_told, number_told, last_told, upward, venue_told, has_place, carries, not_written, write_set, not_read, read_row, read_set}
use Rattle.sets.specs.Promises.{carried, going_on, uncut}

unfoldable pub opened-sets : Unit {0}
unfolding first_record series_records edition_record regular_record complex_record by_id legging_record legging_records generation_record generation_records reached_records set_of joined set_length behind held_from held_in tells_regular tells_complex tells_edition tells_legging tells_generation part sort_key generation_told may_follow in_order count_of of_series few_enough of_whole of_short series_then is_set places regular_told complex_told edition_told listed_told legging_told generations_told reached_told number_told last_told upward venue_told has_place carries not_written write_set not_read read_row read_set carried going_on uncut
opened-sets = tt
