-- `unfolding opened-rules` opens every definition of the rules, for a statement that computes.
use Rattle.rules.specs.Base.{all, keep, place_where, ranked, first_from}
use Rattle.rules.specs.Words.{opposite, sign_times, within, is_id, is_series, is_side, is_class, is_status, is_quantity, is_away, is_price}
use Rattle.rules.specs.Words.{is_limit}
use Rattle.rules.specs.Words.{is_ratio, place_of, fresh_venue, regular_at, complex_at, legging_at, status_of, with_regular, with_complex}
use Rattle.rules.specs.Words.{with_legging}
use Rattle.rules.specs.Words.{with_series, with_editions, with_generations, with_last, with_reached, is_regular_of, is_complex_of, one_to_one}
use Rattle.rules.specs.Words.{earlier}
use Rattle.rules.specs.Words.{earlier_complex}
use Rattle.rules.specs.Settings.{is_increment, is_percent, is_edition, base_figure, sets, last_value, in_force, figure_now, increment}
use Rattle.rules.specs.Settings.{percent, free_edition, enter_edition}
use Rattle.rules.specs.Bytes.{u8_at, u16_at, u32_at, as_signed, length_field, kind_field, bytes, as_unsigned, framed}
use Rattle.rules.specs.Messages.{length_of, order_at, two_leg_at, message_of, order_fields, two_leg_fields, encode_message}
use Rattle.rules.specs.Records.{encode, encode_all, sheet, cause_of, record_of, records_from, records}
use Rattle.rules.specs.Effects.{nothing, report, ◌⟫◌, repeat}
use Rattle.rules.specs.Prices.{better, better_of, reaches, rests_at, shown_size, shows_at, shows_for, best_in, size_in, best_regular}
use Rattle.rules.specs.Prices.{best_size, own_price}
use Rattle.rules.specs.Prices.{best_own, own_size, clear_price, displayed_price, away, market_best, weighed, net, taken1, taken2, near_net}
use Rattle.rules.specs.Prices.{in_band}
use Rattle.rules.specs.Removal.{stay, goes, stayers, leavers, remove, fail_if, remove_of}
use Rattle.rules.specs.Standing.{find_complex, parent_of, has_leg, other_leg, other_clear, other_size, both_open, displayed_no_worse, pairs}
use Rattle.rules.specs.Standing.{verdict_of, verdict, stands, shows_again, show_again, settle}
use Rattle.rules.specs.Trading.{less_regular, less_complex, fill_regular, fill_complex, free_regular, free_complex, put_regular}
use Rattle.rules.specs.Trading.{put_complex, trade_with, trade_at_price, pair_off}
use Rattle.rules.specs.Order.{is_met, shown_then_id, price_then_id, at_once, first_met, legging_first, meet, hit, meet_turn, enter_regular}
use Rattle.rules.specs.Order.{order}
use Rattle.rules.specs.Generation.{as_price, leg_price, new_legging, placed, generations_of, under_ceiling, one_more, counted, reaches_any}
use Rattle.rules.specs.Generation.{gives_way, others_stand, makes, make, generate_leg, generate}
use Rattle.rules.specs.Complex.{any_closed, reversed, respects_legs, crosses, limit_then_id, cross, cross_turn, touches, taken_side}
use Rattle.rules.specs.Complex.{fills_unit, touch}
use Rattle.rules.specs.Complex.{legs_in, leg_in, units_in, leg_in_turn, work, complex, places_of, resting_places, each_of, sweep}
use Rattle.rules.specs.Complex.{going_round, examined}
use Rattle.rules.specs.Complex.{id_reached, limited_sweep, cancel_regular, cancel_complex, regular_place, complex_place}
use Rattle.rules.specs.Complex.{rests_regular}
use Rattle.rules.specs.Complex.{rests_complex, cancel}
use Rattle.rules.specs.Places.{blank_regular, blank_complex, blank_edition, blank_legging, packed, close_gaps, arranged}
use Rattle.rules.specs.Refusals.{torn, is_kind, is_length, regular_in_range, two_leg_in_range, far_of, in_range, equal_ratios, decoded}
use Rattle.rules.specs.Refusals.{complex_in_range}
use Rattle.rules.specs.Refusals.{on_increment, off_increment, edition_too_low, idle, in_use, no_edition_left, id_too_low, on_closed, full}
use Rattle.rules.specs.Refusals.{unknown}
use Rattle.rules.specs.Refusals.{refusal_of, refusal}
use Rattle.rules.specs.Step.{set_away, set_status, set_figure, perform, accept, mask, filled, answered, step}
use Rattle.rules.specs.Sound.{apart, listed_in_range, legging_sound, leggings_sound, shows_fully, regulars_sound, complexes_sound}
use Rattle.rules.specs.Sound.{ids_distinct}
use Rattle.rules.specs.Sound.{figure_in_range, edition_in_range, editions_sound, unfallen, generations_sound, sound, follows}
use Rattle.rules.specs.Calls.{called, exceeds, ends, after, run_from, run, run_upon_from, run_upon, one_from, one, settings}
use Rattle.rules.specs.Sums.{total, contracts, contracts_at, paired, crossed_for, cancelled_of, generated_of, open_in}
use Rattle.rules.specs.Lengths.{record_length}

unfoldable pub opened-rules : Unit {0}
unfolding all keep place_where ranked first_from opposite sign_times within is_id is_series is_side is_class is_status is_quantity is_away is_price
    is_limit is_ratio place_of fresh_venue regular_at complex_at legging_at status_of with_regular with_complex with_legging with_series
    with_editions with_generations with_last with_reached is_regular_of is_complex_of one_to_one earlier earlier_complex is_increment is_percent
    is_edition base_figure sets last_value in_force figure_now increment percent free_edition enter_edition u8_at u16_at u32_at as_signed
    length_field kind_field bytes as_unsigned framed length_of order_at two_leg_at message_of order_fields two_leg_fields encode_message encode
    encode_all sheet cause_of record_of records_from records nothing report ◌⟫◌ repeat better better_of reaches rests_at shown_size shows_at
    shows_for best_in size_in best_regular best_size own_price best_own own_size clear_price displayed_price away market_best weighed net taken1
    taken2 near_net in_band stay goes stayers leavers remove fail_if remove_of find_complex parent_of has_leg other_leg other_clear other_size
    both_open displayed_no_worse pairs verdict_of verdict stands shows_again show_again settle less_regular less_complex fill_regular fill_complex
    free_regular free_complex put_regular put_complex trade_with trade_at_price pair_off is_met shown_then_id price_then_id at_once first_met
    legging_first meet hit meet_turn enter_regular order as_price leg_price new_legging placed generations_of under_ceiling one_more counted
    reaches_any gives_way others_stand makes make generate_leg generate any_closed reversed respects_legs crosses limit_then_id cross cross_turn
    touches taken_side fills_unit touch legs_in leg_in units_in leg_in_turn work complex places_of resting_places each_of sweep going_round
    examined id_reached limited_sweep cancel_regular cancel_complex regular_place complex_place rests_regular rests_complex cancel blank_regular
    blank_complex blank_edition blank_legging packed close_gaps arranged torn is_kind is_length regular_in_range two_leg_in_range far_of in_range
    equal_ratios decoded complex_in_range on_increment off_increment edition_too_low idle in_use no_edition_left id_too_low on_closed full unknown
    refusal_of refusal set_away set_status set_figure perform accept mask filled answered step apart listed_in_range legging_sound
    leggings_sound shows_fully regulars_sound complexes_sound ids_distinct figure_in_range edition_in_range editions_sound unfallen
    generations_sound sound follows called exceeds ends after run_from run run_upon_from run_upon one_from one settings total contracts
    contracts_at paired crossed_for cancelled_of generated_of open_in record_length
opened-rules = tt
