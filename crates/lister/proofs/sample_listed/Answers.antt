use mathlib.Core.Path.{refl}
use Rattle.octets.specs.Numbers.{be16_at, be32_at}
use Rattle.frame.specs.Header.{count_fault, fields_fault, header_fault}
use Rattle.frame.specs.Entry.{least_entry, context_count, parameter_offset, is_context_bad, count_place, least_count, count_fits, entry_fits, entry_size, entries_fill}
use Rattle.frame.specs.Decide.{keep_alive_fill, data_sound, decide_data, decide_header, decide, taken}
use Rattle.laws.specs.Decimal.{decimal_within, decimal_of}
use Rattle.lines.specs.Text.{number_text, message_line, stop_line, part_line, end_line}
use Rattle.split.specs.Split.{split_by, split_within, split_of, decides_sound, sound_among, sound_messages}
use Rattle.lister.specs.Listing.{bytes_of, line_of, lines_of, last_by, last_line, listed_bytes, unlisted, listing_from, listing}
use Rattle.lister.proofs.sample_listed.Goals as goal

pub returns : goal.returns
unfolding listing listing_from last_line last_by unlisted listed_bytes lines_of line_of bytes_of sound_messages sound_among split_of split_within split_by decides_sound message_line stop_line part_line end_line number_text decimal_of decimal_within decide taken decide_header decide_data data_sound keep_alive_fill header_fault fields_fault count_fault entry_size entry_fits entries_fill count_fits least_entry context_count parameter_offset is_context_bad count_place least_count be16_at be32_at
returns c = refl
