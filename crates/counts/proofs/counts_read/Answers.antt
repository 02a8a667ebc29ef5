use mathlib.Core.Path.{refl}
use Rattle.octets.specs.Numbers.{be16_at, be32_at, bytes16, bytes32}
use Rattle.octets.specs.Zeros.{zeros}
use Rattle.heartbeat.specs.Beat.{form_of, value_of}
use Rattle.frame.specs.Header.{count_fault, fields_fault, header_fault}
use Rattle.frame.specs.Entry.{least_entry, context_count, parameter_offset, is_context_bad, count_place, least_count, count_fits, entry_fits, entry_size, entries_fill}
use Rattle.frame.specs.Decide.{keep_alive_fill, data_sound, decide_data, decide_header, decide}
use Rattle.fields.specs.Place.{entries_from, entry_bytes, parameters_of, context_of}
use Rattle.fields.specs.Fields.{method_at, command_of, notification_of, response_of, heartbeat_of}
use Rattle.reader.specs.Numbers.{heartbeat_numbers, command_numbers, notification_numbers, response_numbers}
use Rattle.reader.specs.Read.{message_of, read_by, read_of}
use Rattle.reader.specs.Entry.{has_entry, fields_of, entry_in, entry_by, entry_of, part_in, part_by, part_of}
use Rattle.reader.specs.Context.{context_in, context_by, entry_context}
use Rattle.counts.proofs.counts_read.Goals as goal

pub returns : goal.returns
unfolding read_of read_by entry_of entry_by entry_in part_of part_by part_in has_entry fields_of message_of heartbeat_numbers command_numbers notification_numbers response_numbers entry_bytes entries_from parameters_of method_at command_of notification_of response_of heartbeat_of form_of value_of decide decide_header decide_data data_sound keep_alive_fill header_fault fields_fault count_fault entry_size entry_fits entries_fill count_fits least_entry context_count parameter_offset is_context_bad count_place least_count be16_at be32_at bytes16 bytes32 zeros entry_context context_by context_in context_of
returns c = refl
