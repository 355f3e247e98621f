-- One name that opens all the definitions, for statements that are computed: `unfolding everything`.
-- Assumes nothing.
use lib.Count.{count_trailing_zeros}
use lib.Ieee.{odd, size, span, climb, fits, to_bits}
use Rattle.fdoca.specs.Basics.{in_base, big}
use Rattle.fdoca.specs.Returned.{reason_of}
use Rattle.fdoca.specs.FieldType.{type_of, rule_of}
use Rattle.fdoca.specs.Item.{space, measure_fixed, measure_body, measure_counted, before_zero, measure_terminated, measure_value, measure_nullable, measure_item, measure}
use Rattle.fdoca.specs.Walk.{note_of, cut_from, walk, rows_from, walk_rows, walk_by}
use Rattle.fdoca.specs.Check.{good_column, count_added, add_group, add_groups, good_parameters, check_sda, check_row, check_cpt, check_isd, check_construct, check_triplet, check_triplets, check}
use Rattle.fdoca.specs.Unfolding.{add_fields, unfold_sda, unfold_row, unfold_cpt, unfold_construct, unfold_triplet, unfold_triplets, unfolded, repeated}
use Rattle.fdoca.specs.Dump.{decimal, refused_line, item_line, item_lines, block_notes, dump}
use Rattle.fdoca.specs.Calls.{list, item_at, ordered, signed, whole_of, whole_number, packed, reading_by, read_by, value}
use Rattle.fdoca.specs.Float.{canonical, equal_float, is_negative, characteristic, fraction, number_of, float_of}
use Rattle.fdoca.specs.Packed.{half_bytes, packed_number}

unfoldable pub everything : Unit {0}
unfolding in_base big reason_of type_of rule_of space measure_fixed measure_body measure_counted before_zero measure_terminated measure_value measure_nullable measure_item measure note_of cut_from walk rows_from walk_rows walk_by good_column count_added add_group add_groups good_parameters check_sda check_row check_cpt check_isd check_construct check_triplet check_triplets check add_fields unfold_sda unfold_row unfold_cpt unfold_construct unfold_triplet unfold_triplets unfolded repeated list item_at ordered signed whole_of whole_number packed reading_by read_by value canonical equal_float is_negative characteristic fraction number_of float_of odd size span climb count_trailing_zeros fits to_bits half_bytes packed_number decimal refused_line item_line item_lines block_notes dump
everything = tt
