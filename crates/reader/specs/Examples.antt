-- R83. The messages of the examples that are read: one table.
use Rattle.std.specs.Prelude.{ℕ, ◌+◌, length, replicate, ◌≡◌, List, [], ◌∷◌, ◌++◌, map}
use Rattle.octets.specs.Numbers.{bytes16, bytes32}
use Rattle.reader.specs.Read.{read_of}
use Rattle.reader.specs.Entry.{entry_of, part_of}
use Rattle.reader.specs.Context.{entry_context}

-- R83. A message's bytes, and the numbers that reading it, its entry 0, that entry's part and its context gives.
pub record Example : Type 0 where
  pub bytes : List ℕ
  pub reads : List ℕ
  pub first : List ℕ
  pub part : List ℕ
  pub context : List ℕ

-- R83. The keep-alive of 2 s.
abbrev pub keep_alive2s : List ℕ
keep_alive2s = 0x3B ∷ 0x00 ∷ 0x01 ∷ 0x00 ∷ 0x00 ∷ 0x00 ∷ 0x0B ∷ 0x04 ∷ 0x00 ∷ 0x01 ∷ 0x00 ∷ 0x02 ∷ []

-- R83. The keep-alive of 2,000 ms.
abbrev pub keep_alive2000ms : List ℕ
keep_alive2000ms = 0x3B ∷ 0x00 ∷ 0x01 ∷ 0x00 ∷ 0x00 ∷ 0x00 ∷ 0x0D ∷ 0x04 ∷ 0x00 ∷ 0x01 ∷ 0x00 ∷ 0x00 ∷ 0x07 ∷ 0xD0 ∷ []

-- R83. The lock of 4097, handle 7.
abbrev pub lock4097 : List ℕ
lock4097 =
    0x3B ∷ 0x00 ∷ 0x01 ∷ 0x00 ∷ 0x00 ∷ 0x00 ∷ 0x1A ∷ 0x01 ∷ 0x00 ∷ 0x01
    ∷ 0x00 ∷ 0x00 ∷ 0x00 ∷ 0x11 ∷ 0x00 ∷ 0x00 ∷ 0x00 ∷ 0x07 ∷ 0x00 ∷ 0x00 ∷ 0x10 ∷ 0x01 ∷ 0x00 ∷ 0x01 ∷ 0x00 ∷ 0x03 ∷ 0x00 ∷ []

-- R83. The reply to it, with the status given.
abbrev pub reply7 : ℕ → List ℕ
reply7 status =
    0x3B ∷ 0x00 ∷ 0x01 ∷ 0x00 ∷ 0x00 ∷ 0x00 ∷ 0x13 ∷ 0x03 ∷ 0x00 ∷ 0x01
    ∷ 0x00 ∷ 0x00 ∷ 0x00 ∷ 0x0A ∷ 0x00 ∷ 0x00 ∷ 0x00 ∷ 0x07 ∷ status ∷ 0x00 ∷ []

-- R83. The notification that 4097 is muted.
abbrev pub muted4097 : List ℕ
muted4097 =
    0x3B ∷ 0x00 ∷ 0x01 ∷ 0x00 ∷ 0x00 ∷ 0x00 ∷ 0x2A ∷ 0x02 ∷ 0x00 ∷ 0x01
    ∷ 0x00 ∷ 0x00 ∷ 0x00 ∷ 0x21 ∷ 0x00 ∷ 0x00 ∷ 0x00 ∷ 0x09 ∷ 0x00 ∷ 0x03 ∷ 0x00 ∷ 0x01 ∷ 0x02 ∷ 0x00 ∷ 0x04 ∷ 0x01 ∷ 0x02 ∷ 0x03 ∷ 0x04
    ∷ 0x00 ∷ 0x00 ∷ 0x10 ∷ 0x01 ∷ 0x00 ∷ 0x01 ∷ 0x00 ∷ 0x01 ∷ 0x00 ∷ 0x04 ∷ 0x00 ∷ 0x01 ∷ 0x01 ∷ 0x01 ∷ []

-- R83. The messages, each with what is read of it.
abbrev pub examples : List Example
examples =
    record { bytes = keep_alive2s; reads = 0 ∷ 12 ∷ 4 ∷ 1 ∷ 1 ∷ 2 ∷ []; first = 12 ∷ []; part = []; context = [] }
    ∷ record { bytes = keep_alive2000ms; reads = 0 ∷ 14 ∷ 4 ∷ 1 ∷ 2 ∷ 2000 ∷ []; first = 12 ∷ []; part = []; context = [] }
    ∷ record { bytes = lock4097; reads = 0 ∷ 27 ∷ 1 ∷ 1 ∷ []; first = 0 ∷ 0 ∷ 7 ∷ 4097 ∷ 1 ∷ 3 ∷ 0 ∷ []; part = []; context = [] }
    ∷ record { bytes = reply7 0; reads = 0 ∷ 20 ∷ 3 ∷ 1 ∷ []; first = 0 ∷ 3 ∷ 7 ∷ 0 ∷ 0 ∷ []; part = []; context = [] }
    ∷ record { bytes = reply7 3; reads = 0 ∷ 20 ∷ 3 ∷ 1 ∷ []; first = 0 ∷ 3 ∷ 7 ∷ 3 ∷ 0 ∷ []; part = []; context = [] }
    ∷ record {
      bytes = muted4097;
      reads = 0 ∷ 43 ∷ 2 ∷ 1 ∷ [];
      first = 0 ∷ 2 ∷ 9 ∷ 3 ∷ 1 ∷ 2 ∷ 4 ∷ 4097 ∷ 1 ∷ 1 ∷ [];
      part = 0x00 ∷ 0x04 ∷ 0x00 ∷ 0x01 ∷ 0x01 ∷ 0x01 ∷ [];
      context = 0x01 ∷ 0x02 ∷ 0x03 ∷ 0x04 ∷ [];
    }
    ∷ []

-- R83. A row as the definitions work it out.
abbrev pub worked : Example → Example
worked e =
    record {
      bytes = e.bytes;
      reads = read_of e.bytes;
      first = entry_of e.bytes 0;
      part = part_of e.bytes 0;
      context = entry_context e.bytes 0;
    }

-- R83. The notification that 4097 is muted, with that context.
abbrev pub muted_to : List ℕ → List ℕ
muted_to context =
    0x3B ∷ 0x00 ∷ 0x01 ∷ (bytes32 (38 + length context) ++ (0x02 ∷ 0x00 ∷ 0x01
    ∷ (bytes32 (29 + length context) ++ (0x00 ∷ 0x00 ∷ 0x00 ∷ 0x09 ∷ 0x00 ∷ 0x03 ∷ 0x00 ∷ 0x01 ∷ 0x02
    ∷ (bytes16 (length context) ++ (context
    ++ (0x00 ∷ 0x00 ∷ 0x10 ∷ 0x01 ∷ 0x00 ∷ 0x01 ∷ 0x00 ∷ 0x01 ∷ 0x00 ∷ 0x04 ∷ 0x00 ∷ 0x01 ∷ 0x01 ∷ 0x01 ∷ [])))))))

-- R83. What is read of one with a context of n bytes that are all AB.
abbrev pub context_row : ℕ → Example
context_row n =
    record {
      bytes = muted_to (replicate n 0xAB);
      reads = 0 ∷ (39 + n) ∷ 2 ∷ 1 ∷ [];
      first = 0 ∷ 2 ∷ 9 ∷ 3 ∷ 1 ∷ 2 ∷ n ∷ 4097 ∷ 1 ∷ 1 ∷ [];
      part = 0x00 ∷ 0x04 ∷ 0x00 ∷ 0x01 ∷ 0x01 ∷ 0x01 ∷ [];
      context = replicate n 0xAB;
    }

-- R83. Contexts of 0, 1, 63 and 64 bytes are read, one of 65 is fault 6.
abbrev pub contexts : List Example
contexts =
    context_row 0 ∷ context_row 1 ∷ context_row 63 ∷ context_row 64
    ∷ record { bytes = muted_to (replicate 65 0xAB); reads = 8 ∷ 6 ∷ []; first = 8 ∷ 6 ∷ []; part = []; context = [] }
    ∷ []

-- Theorem. Every row is worked out as it stands.
pub record ExamplesRead : Type 0 where
  pub messages : map worked examples ≡ examples
  pub notifications : map worked contexts ≡ contexts
  -- the starred notification is the one with context 01 02 03 04
  pub same : muted_to (0x01 ∷ 0x02 ∷ 0x03 ∷ 0x04 ∷ []) ≡ muted4097
