-- R69. What C is handed by the reader and the writer: the numbers of their answers, each in its field.
use Rattle.std.specs.Prelude.{ℕ, List, cond, length, get_or, eqb}
use Rattle.numbers.specs.Refusal.{not_refused}
use Rattle.frame.specs.Limits.{notification, response}
use Rattle.reader.specs.Entry.{part_of, part_start}
use Rattle.reader.specs.Context.{entry_context, context_start}
use Rattle.melorwyth.specs.declared.messages.Reading.{Reading}
use Rattle.melorwyth.specs.declared.messages.Entry.{Entry}
use Rattle.melorwyth.specs.declared.messages.Part.{Part}
use Rattle.melorwyth.specs.declared.messages.Written.{Written}

-- R69. The number at a place of an answer, or 0.
abbrev pub at : List ℕ → ℕ → ℕ
at l i = get_or l i 0

-- R69. A reading of these fields.
abbrev pub reading_with : ℕ → ℕ → ℕ → ℕ → ℕ → ℕ → ℕ → Reading
reading_with number fault kind count form value length =
    record { number = number; fault = fault; kind = kind; count = count; form = form; value = value; length = length }

-- R69. A reading: length, type, count, form and value; or the refusal, 8 with its fault.
unfoldable pub reading_of : List ℕ → Reading
reading_of l =
    cond (eqb (at l 0) not_refused)
    (reading_with not_refused 0 (at l 2) (at l 3) (at l 4) (at l 5) (at l 1))
    (reading_with (at l 0) (at l 1) 0 0 0 0 0)

-- R69. A command; what a command has not is 0.
unfoldable pub command_from : List ℕ → Entry
command_from l =
    record {
      number = not_refused;
      fault = 0;
      kind = 0;
      handle = at l 2;
      target = at l 3;
      level = at l 4;
      index = at l 5;
      count = at l 6;
      status = 0;
      context_count = 0;
      emitter = 0;
      event_level = 0;
      event_index = 0;
    }

-- R69. A notification; what a notification has not is 0.
unfoldable pub notification_from : List ℕ → Entry
notification_from l =
    record {
      number = not_refused;
      fault = 0;
      kind = notification;
      handle = 0;
      target = at l 2;
      level = at l 3;
      index = at l 4;
      count = at l 5;
      status = 0;
      context_count = at l 6;
      emitter = at l 7;
      event_level = at l 8;
      event_index = at l 9;
    }

-- R69. An entry without target, method, context, emitter and event: a response, or a refusal.
abbrev pub plain_with : ℕ → ℕ → ℕ → ℕ → ℕ → ℕ → Entry
plain_with number fault kind handle status count =
    record {
      number = number;
      fault = fault;
      kind = kind;
      handle = handle;
      target = 0;
      level = 0;
      index = 0;
      count = count;
      status = status;
      context_count = 0;
      emitter = 0;
      event_level = 0;
      event_index = 0;
    }

-- R69. An entry by its type, or the refusal, 8 with its fault.
unfoldable pub entry_from : List ℕ → Entry
entry_from l =
    cond (eqb (at l 0) not_refused)
    (cond (eqb (at l 1) 0) (command_from l)
    (cond (eqb (at l 1) notification) (notification_from l)
    (plain_with not_refused 0 response (at l 2) (at l 3) (at l 4))))
    (plain_with (at l 0) (at l 1) 0 0 0 0)

-- R69. A part: where it starts and how long it is.
unfoldable pub part_from : List ℕ → ℕ → Part
part_from s i = record { start = part_start s i; length = length (part_of s i) }

-- R69. A context, in the same way.
unfoldable pub context_from : List ℕ → ℕ → Part
context_from s i = record { start = context_start s i; length = length (entry_context s i) }

-- R69. An answer of the writer of these fields.
abbrev pub written_with : ℕ → ℕ → ℕ → Written
written_with number fault length = record { number = number; fault = fault; length = length }

-- R69. The message's length; or the refusal, 8 with its fault.
unfoldable pub written_of : List ℕ → Written
written_of l = cond (eqb (at l 0) not_refused) (written_with not_refused 0 (at l 1)) (written_with (at l 0) (at l 1) 0)
