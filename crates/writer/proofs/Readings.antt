-- What a call of the writer that is not refused leaves, and how it is read. Assumes nothing.
use Prim.Native.Nat.{ℕ, ◌+◌, ◌≤◌, ◌<◌}
use mathlib.Core.Path.{◌≡◌, refl, sym, ap, ◌∙◌}
use mathlib.Core.List.{List, [], ◌∷◌, ◌++◌}
use mathlib.Core.Bool.{Bool, cond, true, false, ◌&&◌}
use native.Mathlib.Omega.{arith}
use native.Mathlib.Numerals.{add-one}
use lib.Dec.{ltb, leb, eqb}
use Rattle.std.specs.Prelude.{None}
use lib.ListN.{length, get_or, drop}
use lib.Seq.{ext_get_or}
use borrow.Author.Tests.{eq-eqb, ne_eqb, lt-ltb, le-ltb, ltb-false, leb-true, eqb-true}
use Rattle.laws.proofs.Conds.{and_left, and_right}
use Rattle.octets.specs.Numbers.{bytes16, bytes32}
use Rattle.octets.proofs.Digits.{be16_bytes, be32_bytes, length_bytes16, length_bytes32}
use Rattle.heartbeat.specs.Beat.{seconds_form, milliseconds_form, form_of, value_of, greatest_seconds}
use Rattle.frame.specs.Limits.{greatest_size, response, keep_alive}
use Rattle.frame.specs.Header.{pdu_type, message_count, count_fault}
use Rattle.frame.specs.Entry.{entries_fill, well_formed}
use Rattle.frame.specs.Decide.{keep_alive_fill, data_sound, decide}
use Rattle.frame.specs.declared.Decision.{Decision}
use Rattle.frame.specs.declared.Decision.TheVariants.{Undecided, Faulty, Sound}
use Rattle.frame.proofs.Entries.{well_kind, entries_few}
use Rattle.fields.specs.Fields.{heartbeat_of}
use Rattle.reader.specs.Numbers.{heartbeat_numbers}
use Rattle.reader.specs.Read.{data_of, message_of, read_by, read_of}
use Rattle.reader.specs.Entry.{has_entry, entry_in, entry_by, entry_of, part_in, part_by, part_of}
use Rattle.reader.specs.Context.{context_in, context_by, entry_context}
use Rattle.numbers.specs.Refusal.{not_refused, too_long, bad_entry, no_room}
use Rattle.writer.specs.Numbers.{Writing}
use Rattle.layout.specs.Message.{size_of, message, at_front, beat_bytes}
use Rattle.writer.specs.Write.{least_room, unwritten, written, offered, start_of, append_sound, append_by, append_of, beat_fits, keep_alive_of}
use Rattle.writer.specs.Round.{Made, started, appended, entries_of, entries_in, ReadsAs}
use Rattle.layout.proofs.Messages.{length_message}
use Rattle.writer.proofs.Outcomes.{sound_entries, beat_good}
use Rattle.writer.proofs.Walks.{fill_append, entries_append, length_entries, entries_index}
use Rattle.writer.proofs.Heads.{Holds, message_holds}

-- a message of entries is read as they are
pub reads_as : (s : List ℕ) (n kind count : ℕ) (t : List ℕ) → Holds s n kind count t → kind ≤ response → ReadsAs s n kind (entries_of count kind t)
unfolding read_of read_by message_of entry_of entry_by entry_in part_of part_by part_in entry_context context_by context_in has_entry
reads_as s n kind count t h k =
    let l = length_entries count kind t in
    let nk = ne_eqb kind keep_alive (λ q. omega arith) in
    record {
      message = rw h.sound (simp (h.type, h.number, nk, l));
      bytes = λ i b. rw (h.type, h.body) (sym (entries_index i count kind t (omega arith)));
      entry = λ i b. let lt = lt-ltb i count (omega arith) in rw h.sound (simp (h.type, h.number, nk, lt, h.body, entries_index i count kind t (omega arith)));
      part = λ i b. let lt = lt-ltb i count (omega arith) in rw h.sound (simp (h.type, h.number, nk, lt, h.body, entries_index i count kind t (omega arith)));
      context = λ i b. let lt = lt-ltb i count (omega arith) in rw h.sound (simp (h.type, h.number, nk, lt, h.body, entries_index i count kind t (omega arith)));
      none = λ i b. let ge = le-ltb i count (omega arith) in rw h.sound (simp (h.type, h.number, nk, ge));
    }

-- a call that wrote: the message at the buffer's front
pub record Wrote (o : Writing) (buf : List ℕ) (n kind count : ℕ) (body : List ℕ) : Type 0 where
  pub small : size_of body ≤ greatest_size
  pub size : n ≡ length body + 10
  pub after : o.buffer ≡ at_front (message kind count body) buf

written_way : (kind count : ℕ) (body buf : List ℕ) (n : ℕ) → size_of body ≤ greatest_size
    → (written (message kind count body) buf).answer ≡ not_refused ∷ n ∷ [] → Wrote (written (message kind count body) buf) buf n kind count body
unfolding written
written_way kind count body buf n h e =
    let q : length (message kind count body) ≡ n = cc in
    record { small = h; size = sym q ∙ length_message kind count body; after = refl }

offered_way : (kind count : ℕ) (body buf : List ℕ) (n : ℕ) → (offered kind count body buf).answer ≡ not_refused ∷ n ∷ []
    → Wrote (offered kind count body buf) buf n kind count body
unfolding offered unwritten
offered_way kind count body buf n e = go (ltb greatest_size (size_of body)) refl e
  where
    go : (b : Bool) → ltb greatest_size (size_of body) ≡ b
        → (cond b (unwritten too_long buf) (written (message kind count body) buf)).answer ≡ not_refused ∷ n ∷ []
        → Wrote (cond b (unwritten too_long buf) (written (message kind count body) buf)) buf n kind count body
    go true q e = absurd (omega (arith, ap length e))
    go false q e = written_way kind count body buf n (ltb-false greatest_size (size_of body) q) e

pub start_way : (buf : List ℕ) (kind : ℕ) (e : List ℕ) (n : ℕ) → (start_of buf kind e).answer ≡ not_refused ∷ n ∷ []
    → (well_formed kind e ≡ true) × Wrote (start_of buf kind e) buf n kind 1 e
unfolding start_of unwritten
start_way buf kind e n h = go (ltb (length buf) least_room) (well_formed kind e) refl h
  where
    go : (a b : Bool) → well_formed kind e ≡ b
        → (cond a (unwritten no_room buf) (cond b (offered kind 1 e buf) (unwritten bad_entry buf))).answer ≡ not_refused ∷ n ∷ []
        → (well_formed kind e ≡ true) × Wrote (cond a (unwritten no_room buf) (cond b (offered kind 1 e buf) (unwritten bad_entry buf))) buf n kind 1 e
    go true b q h = absurd (omega (arith, ap length h))
    go false false q h = absurd (omega (arith, ap length h))
    go false true q h = (q, offered_way kind 1 e buf n h)

-- an append that wrote: what stood there, and what it took
pub record Grew (buf : List ℕ) (kind : ℕ) (e : List ℕ) (n : ℕ) (o : Writing) : Type 0 where
  pub length_before : ℕ
  pub sound : decide buf ≡ Sound length_before
  pub type : kind ≡ pdu_type buf
  pub well : well_formed kind e ≡ true
  pub wrote : Wrote o buf n kind (message_count buf + 1) (data_of buf length_before ++ e)

sound_grew : (buf : List ℕ) (kind : ℕ) (e : List ℕ) (n m : ℕ) → decide buf ≡ Sound m
    → (append_sound m buf kind e).answer ≡ not_refused ∷ n ∷ [] → Grew buf kind e n (append_sound m buf kind e)
unfolding append_sound unwritten
sound_grew buf kind e n m s h = go (eqb kind (pdu_type buf) && well_formed kind e) refl h
  where
    go : (a : Bool) → (eqb kind (pdu_type buf) && well_formed kind e) ≡ a
        → (cond a (offered kind (message_count buf + 1) (data_of buf m ++ e) buf) (unwritten bad_entry buf)).answer ≡ not_refused ∷ n ∷ []
        → Grew buf kind e n (cond a (offered kind (message_count buf + 1) (data_of buf m ++ e) buf) (unwritten bad_entry buf))
    go true q h =
        record {
          length_before = m;
          sound = s;
          type = eqb-true kind (pdu_type buf) (and_left (eqb kind (pdu_type buf)) (well_formed kind e) q);
          well = and_right (eqb kind (pdu_type buf)) (well_formed kind e) q;
          wrote = offered_way kind (message_count buf + 1) (data_of buf m ++ e) buf n h;
        }
    go false q h = absurd (omega (arith, ap length h))

pub append_way : (buf : List ℕ) (kind : ℕ) (e : List ℕ) (n : ℕ) → (append_of buf kind e).answer ≡ not_refused ∷ n ∷ [] → Grew buf kind e n (append_of buf kind e)
unfolding append_of append_by unwritten
append_way buf kind e n h = go (ltb (length buf) least_room) (decide buf) refl h
  where
    go : (a : Bool) (d : Decision) → decide buf ≡ d → (cond a (unwritten no_room buf) (append_by d buf kind e)).answer ≡ not_refused ∷ n ∷ []
        → Grew buf kind e n (cond a (unwritten no_room buf) (append_by d buf kind e))
    go true d q h = absurd (omega (arith, ap length h))
    go false Undecided q h = absurd (omega (arith, ap length h))
    go false (Faulty f m) q h = absurd (omega (arith, ap (λ (l : List ℕ). get_or l 0 0) h))
    go false (Sound m) q h = sound_grew buf kind e n m q h

-- a message at a buffer's front: a keep-alive, or entries
front_holds : (buf : List ℕ) (kind count : ℕ) (body : List ℕ) → size_of body ≤ greatest_size → kind ≤ keep_alive → count < 65536
    → count_fault kind count ≡ None → data_sound kind count body ≡ true → Holds (at_front (message kind count body) buf) (length body + 10) kind count body
unfolding at_front
front_holds buf kind count body z k c f d = message_holds kind count body (drop (length (message kind count body)) buf) k z c f d

pub front_entries : (buf : List ℕ) (kind count : ℕ) (body : List ℕ) → size_of body ≤ greatest_size → kind ≤ response → 0 < count
    → entries_fill count kind body ≡ true → Holds (at_front (message kind count body) buf) (length body + 10) kind count body
unfolding count_fault data_sound
front_entries buf kind count body z k p d =
    let nk = ne_eqb kind keep_alive (λ q. omega arith) in
    front_holds buf kind count body z (omega arith) (omega (arith, entries_few count kind body d)) (simp (ne_eqb count 0 (λ q. omega arith), nk)) (simp nk d)

-- entries that a call wrote are read
wrote_reads : (o : Writing) (buf : List ℕ) (n kind count : ℕ) (body : List ℕ) → Wrote o buf n kind count body → kind ≤ response → 0 < count
    → entries_fill count kind body ≡ true → ReadsAs o.buffer n kind (entries_of count kind body)
wrote_reads o buf n kind count body w k p d =
    rw (w.after, w.size) (reads_as (at_front (message kind count body) buf) (length body + 10) kind count body (front_entries buf kind count body w.small k p d) k)

pub start_reads : (buf : List ℕ) (kind : ℕ) (e : List ℕ) (n : ℕ)
    → (start_of buf kind e).answer ≡ not_refused ∷ n ∷ [] → ReadsAs (start_of buf kind e).buffer n kind (e ∷ [])
unfolding entries_fill entries_of
start_reads buf kind e n h =
    let w = start_way buf kind e n h in
    let k = well_kind kind e w.0 in
    let one : entries_of 1 kind e ≡ e ∷ [] = entries_append 0 kind [] e refl k.1 in
    rw (← one) (wrote_reads (start_of buf kind e) buf n kind 1 e w.1 k.0 (omega arith) k.1)

-- bytes are read in one way
reads_one : (s : List ℕ) (n m kind type : ℕ) (es ds : List (List ℕ)) → ReadsAs s n kind es → ReadsAs s m type ds → (n ≡ m) × (kind ≡ type) × (es ≡ ds)
reads_one s n m kind type es ds a b =
    let q = sym a.message ∙ b.message in
    let en : n ≡ m = cc in
    let ek : kind ≡ type = cc in
    let el : length es ≡ length ds = cc in
    (en, ek, ext_get_or [] es ds el (λ i h. sym (a.bytes i h) ∙ rw en (b.bytes i (omega arith))))

-- a sound message of types 0 to 3 is read as its entries
pub sound_reads : (s : List ℕ) (n : ℕ) → decide s ≡ Sound n → pdu_type s ≤ response → ReadsAs s n (pdu_type s) (entries_in s n)
sound_reads s n e k =
    reads_as s n (pdu_type s) (message_count s) (data_of s n) (record { sound = e; type = refl; number = refl; body = refl }) k

-- entries with one more behind
pub grown_list : (c kind type : ℕ) (t e : List ℕ) (es : List (List ℕ)) → kind ≡ type → es ≡ entries_of c type t → entries_fill c type t ≡ true
    → entries_fill 1 kind e ≡ true → (entries_of (c + 1) kind (t ++ e) ≡ es ++ (e ∷ [])) × (entries_fill (c + 1) kind (t ++ e) ≡ true)
grown_list c kind type t e es q s f o =
    let g : entries_fill c kind t ≡ true = rw q f in
    let l : entries_of c kind t ≡ es = ap (λ (k : ℕ). entries_of c k t) q ∙ sym s in
    (rw (add-one, ← l) (entries_append c kind t e g o), rw add-one (fill_append c kind t e g o))

pub append_reads : (buf : List ℕ) (m type : ℕ) (es : List (List ℕ)) (kind : ℕ) (e : List ℕ) (n : ℕ) → ReadsAs buf m type es
    → (append_of buf kind e).answer ≡ not_refused ∷ n ∷ [] → ReadsAs (append_of buf kind e).buffer n type (es ++ (e ∷ []))
append_reads buf m type es kind e n r h =
    let w = append_way buf kind e n h in
    let k = well_kind kind e w.well in
    let l = w.length_before in
    let tk = w.type in
    let low : pdu_type buf ≤ response = omega (arith, k.0) in
    let same = reads_one buf m l type (pdu_type buf) es (entries_in buf l) r (sound_reads buf l w.sound low) in
    let t = data_of buf l in
    let c = message_count buf in
    let more = grown_list c kind (pdu_type buf) t e es tk same.2 (sound_entries buf l w.sound low) k.1 in
    let kt : type ≡ kind = same.1 ∙ sym tk in
    rw (← more.0, kt)
    (wrote_reads (append_of buf kind e) buf n kind (c + 1) (t ++ e) w.wrote k.0 (omega arith) more.1)

pub made_reads : {buf : List ℕ} {kind : ℕ} {es : List (List ℕ)} {n : ℕ} {after : List ℕ} → Made buf kind es n after → ReadsAs after n kind es
made_reads {buf} {kind} (started e n h) = start_reads buf kind e n h
made_reads {buf} {kind} (appended es m before e n r h) = append_reads before m kind es kind e n (made_reads r) h

-- a form and value that fit, and their bytes
pub data Beat (form value : ℕ) : List ℕ → Type 0 where
  seconds : form ≡ seconds_form → value ≤ greatest_seconds → Beat form value (bytes16 value)
  milliseconds : form ≡ milliseconds_form → Beat form value (bytes32 value)

pub beat_view : (form value : ℕ) → beat_fits form value ≡ true → Beat form value (beat_bytes form value)
unfolding beat_fits beat_bytes
beat_view form value h = go (eqb form seconds_form) refl h
  where
    go : (b : Bool) → eqb form seconds_form ≡ b → cond b (leb value greatest_seconds) (eqb form milliseconds_form) ≡ true
        → Beat form value (cond b (bytes16 value) (bytes32 value))
    go true q h = seconds (eqb-true form seconds_form q) (leb-true value greatest_seconds h)
    go false q h = milliseconds (eqb-true form milliseconds_form h)

pub beat_fill : {form value : ℕ} {body : List ℕ} → Beat form value body → keep_alive_fill body ≡ true
unfolding keep_alive_fill bytes16 bytes32
beat_fill (seconds f l) = refl
beat_fill (milliseconds f) = refl

pub beat_small : {form value : ℕ} {body : List ℕ} → Beat form value body → size_of body ≤ greatest_size
unfolding bytes16 bytes32
beat_small (seconds f l) = omega arith
beat_small (milliseconds f) = omega arith

beat_numbers : {form value : ℕ} {body : List ℕ} → Beat form value body → value < 4294967296 → heartbeat_numbers (heartbeat_of body) ≡ form ∷ value ∷ []
unfolding heartbeat_numbers heartbeat_of form_of value_of
beat_numbers {value = v} (seconds f l) b = simp (eq-eqb (length (bytes16 v)) 2 (length_bytes16 v), be16_bytes v (omega arith), f)
beat_numbers {value = v} (milliseconds f) b = simp (ne_eqb (length (bytes32 v)) 2 (λ q. omega (arith, length_bytes32 v)), be32_bytes v b, f)

beat_way : (buf : List ℕ) (form value n : ℕ) → (keep_alive_of buf form value).answer ≡ not_refused ∷ n ∷ []
    → (beat_fits form value ≡ true) × Wrote (keep_alive_of buf form value) buf n keep_alive 1 (beat_bytes form value)
unfolding keep_alive_of unwritten
beat_way buf form value n h = go (ltb (length buf) least_room) (beat_fits form value) refl h
  where
    go : (a b : Bool) → beat_fits form value ≡ b
        → (cond a (unwritten no_room buf) (cond b (written (message keep_alive 1 (beat_bytes form value)) buf) (unwritten bad_entry buf))).answer ≡ not_refused ∷ n ∷ []
        → (beat_fits form value ≡ true) × Wrote (cond a (unwritten no_room buf) (cond b (written (message keep_alive 1 (beat_bytes form value)) buf) (unwritten bad_entry buf))) buf n keep_alive 1 (beat_bytes form value)
    go true b q h = absurd (omega (arith, ap length h))
    go false false q h = absurd (omega (arith, ap length h))
    go false true q h = (q, written_way keep_alive 1 (beat_bytes form value) buf n (beat_small (beat_view form value q)) h)

pub beat_reads : (buf : List ℕ) (form value n : ℕ) → value < 4294967296 → (keep_alive_of buf form value).answer ≡ not_refused ∷ n ∷ []
    → read_of (keep_alive_of buf form value).buffer ≡ 0 ∷ n ∷ keep_alive ∷ 1 ∷ form ∷ value ∷ []
unfolding read_of read_by message_of count_fault data_sound
beat_reads buf form value n b h =
    let w = beat_way buf form value n h in
    let v = beat_view form value w.0 in
    let s = front_holds buf keep_alive 1 (beat_bytes form value) w.1.small (omega arith) (omega arith) refl (beat_fill v) in
    let m = at_front (message keep_alive 1 (beat_bytes form value)) buf in
    rw (w.1.after, s.sound) (simp (eq-eqb (pdu_type m) keep_alive s.type, s.body, beat_numbers v b, w.1.size))

-- zero and the largest values
pub beat_taken : (buf : List ℕ) (form value : ℕ) → least_room ≤ length buf → beat_fits form value ≡ true → value < 4294967296
    → read_of (keep_alive_of buf form value).buffer ≡ 0 ∷ (length (beat_bytes form value) + 10) ∷ keep_alive ∷ 1 ∷ form ∷ value ∷ []
unfolding written
beat_taken buf form value room f h =
    let g = ap (λ (o : Writing). o.answer) (beat_good buf form value room f) in
    let l = length_message keep_alive 1 (beat_bytes form value) in
    beat_reads buf form value (length (beat_bytes form value) + 10) h (sym g ∙ rw l)
