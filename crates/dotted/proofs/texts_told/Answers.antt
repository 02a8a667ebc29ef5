use mathlib.Core.Path.{refl}
use Rattle.dotted.specs.Text.{dotted_of, of_parts, parts_of, four_parts, text_fields, onto, text_part, part_if}
use Rattle.dotted.specs.Text.{is_dot, is_digit, is_leading, digit_value, one_digit, two_digits, three_digits}
use Rattle.dotted.specs.Table.{text_table}
use Rattle.dotted.proofs.texts_told.Goals as goal

pub returns : goal.returns
unfolding text_table dotted_of of_parts parts_of four_parts text_fields onto text_part part_if is_dot is_digit is_leading digit_value one_digit two_digits three_digits
returns c = record { told = refl }
