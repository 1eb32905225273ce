-- Where each number stands among the numbers of a venue (Layout). A name that ends in NextAt is where the same number of the place after stands.
use Rattle.std.specs.Prelude.{ℕ}

-- 4 numbers of each of 128 regular places, the first of them its id
abbrev pub regular_key_at : ℕ
regular_key_at = 1

abbrev pub regular_price_at : ℕ
regular_price_at = 2

abbrev pub regular_quantity_at : ℕ
regular_quantity_at = 3

-- 6 numbers of each of 32 complex places
abbrev pub complex_id_at : ℕ
complex_id_at = 512

abbrev pub complex_legs_at : ℕ
complex_legs_at = 513

abbrev pub complex_ratios_at : ℕ
complex_ratios_at = 514

abbrev pub complex_class_at : ℕ
complex_class_at = 515

abbrev pub complex_limit_at : ℕ
complex_limit_at = 516

abbrev pub complex_quantity_at : ℕ
complex_quantity_at = 517

abbrev pub complex_next_at : ℕ
complex_next_at = 518

-- 3 numbers of each of 16 legging places
abbrev pub legging_parent_at : ℕ
legging_parent_at = 704

abbrev pub legging_price_at : ℕ
legging_price_at = 705

abbrev pub legging_quantity_at : ℕ
legging_quantity_at = 706

abbrev pub legging_next_at : ℕ
legging_next_at = 707

-- 3 numbers of each of 8 series
abbrev pub series_status_at : ℕ
series_status_at = 752

abbrev pub series_bid_at : ℕ
series_bid_at = 753

abbrev pub series_offer_at : ℕ
series_offer_at = 754

abbrev pub series_next_at : ℕ
series_next_at = 755

-- how many regular places are in use
abbrev pub regulars_used_at : ℕ
regulars_used_at = 776

-- how many complex places are in use
abbrev pub complexes_used_at : ℕ
complexes_used_at = 777

-- the last id accepted
abbrev pub last_id_at : ℕ
last_id_at = 778

-- 3 numbers of each of 16 levels
abbrev pub level_price_at : ℕ
level_price_at = 779

abbrev pub level_low_at : ℕ
level_low_at = 780

abbrev pub level_high_at : ℕ
level_high_at = 781

abbrev pub level_next_at : ℕ
level_next_at = 782

-- how many regular places are known to be held
abbrev pub regulars_known_at : ℕ
regulars_known_at = 827

-- how many complex places are known to be held
abbrev pub complexes_known_at : ℕ
complexes_known_at = 828

-- the mask of the legging places filled
abbrev pub legging_mask_at : ℕ
legging_mask_at = 829

-- 4 numbers of each of 32 editions
abbrev pub edition_number_at : ℕ
edition_number_at = 830

abbrev pub edition_message_at : ℕ
edition_message_at = 831

abbrev pub edition_figure_at : ℕ
edition_figure_at = 832

abbrev pub edition_value_at : ℕ
edition_value_at = 833

abbrev pub edition_next_at : ℕ
edition_next_at = 834

-- 9 figures in force, in every second number
abbrev pub figures_at : ℕ
figures_at = 958

-- 2 numbers more of each of 128 regular places
abbrev pub regular_reserve_at : ℕ
regular_reserve_at = 975

abbrev pub regular_display_at : ℕ
regular_display_at = 976

abbrev pub regular_reserve_next_at : ℕ
regular_reserve_next_at = 977

-- 0 where every order shows what it should
abbrev pub show_again_at : ℕ
show_again_at = 1231

-- 20 numbers of each of 8 series
abbrev pub generation_messages_at : ℕ
generation_messages_at = 1232

abbrev pub generation_newest_at : ℕ
generation_newest_at = 1251

abbrev pub generation_next_at : ℕ
generation_next_at = 1252

-- the last id that a limited sweep looked at
abbrev pub id_reached_at : ℕ
id_reached_at = 1392
