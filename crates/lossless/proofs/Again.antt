-- What was read is written again as the same bytes. Assumes nothing.
use Prim.Native.Nat.{ℕ, zero, suc, ◌+◌, ◌≤◌, ◌<◌}
use mathlib.Core.Path.{◌≡◌, refl, sym, ap, ◌∙◌}
use mathlib.Core.List.{List, [], ◌∷◌, ◌++◌, append_assoc, append-nil}
use mathlib.Core.Bool.{Bool, cond, true, false}
use native.Mathlib.Omega.{arith}
use native.Mathlib.Nat.{add-zero, not-suc-le-zero}
use lib.Dec.{eqb}
use lib.ListN.{length, take, drop, length-append, take-append-drop}
use lib.Seq.{length_front, take_all, length-take-le}
use borrow.Author.Tests.{eq-eqb, ne_eqb, eqb-true, eqb-false, le-leb}
use Rattle.laws.proofs.Conds.{cond_left, cond_right}
use Rattle.laws.proofs.Parts.{nil_of}
use Rattle.octets.specs.Numbers.{be16_at, be32_at, bytes16, bytes32, Octets}
use Rattle.octets.proofs.Digits.{be16_small, bytes16_be16, bytes32_be32, octets_take, octets_drop}
use Rattle.heartbeat.specs.Beat.{seconds_form, milliseconds_form, form_of, value_of, greatest_seconds}
use Rattle.heartbeat.specs.declared.Heartbeat.TheVariants.{InSeconds, InMilliseconds}
use Rattle.std.specs.Prelude.{Some, None}
use Rattle.numbers.specs.declared.Fault.TheVariants as fault
use Rattle.frame.specs.Limits.{greatest_size, response, keep_alive, seconds_bytes, milliseconds_bytes}
use Rattle.frame.specs.Header.{pdu_type, message_count, count_fault}
use Rattle.frame.specs.Entry.{entry_size, entries_fill}
use Rattle.frame.specs.Decide.{keep_alive_fill, decide}
use Rattle.frame.specs.declared.Decision.{Decision}
use Rattle.frame.specs.declared.Decision.TheVariants.{Undecided, Faulty, Sound}
use Rattle.frame.proofs.Entries.{entries_first, well_make}
use Rattle.frame.proofs.Headers.{sound_header}
use Rattle.frame.proofs.Sounds.{sound_at}
use Rattle.fields.specs.Fields.{heartbeat_of}
use Rattle.reader.specs.Numbers.{heartbeat_numbers}
use Rattle.reader.specs.Read.{data_of, message_of, read_by, read_of}
use Rattle.reader.proofs.Sounds.{keep_data}
use Rattle.writer.specs.Numbers.{Writing, written_numbers}
use Rattle.layout.specs.Message.{size_of, message, at_front, beat_bytes}
use Rattle.writer.specs.Write.{least_room, written, start_of, append_of, beat_fits, keep_alive_of}
use Rattle.writer.specs.Round.{Made, started, appended, entries_of, entries_in}
use Rattle.layout.proofs.Messages.{length_message}
use Rattle.writer.proofs.Messages.{length_data}
use Rattle.writer.proofs.Outcomes.{sound_bounds, sound_entries, start_done, append_done, append_sound_lem, beat_good}
use Rattle.writer.proofs.Walks.{one_alone}
use Rattle.writer.proofs.Heads.{sound_message}
use Rattle.writer.proofs.Readings.{front_entries, grown_list}
use Rattle.writer.proofs.Runs.{front_twice}

front_room : (m buf : List ℕ) → length m ≤ length buf → length (at_front m buf) ≡ length buf
unfolding at_front
front_room m buf h = length_front buf m (length m) (sym (length-take-le (length m) buf h))

module _ (buf : List ℕ) (kind : ℕ) (room : least_room ≤ length buf) (low : kind ≤ response) where
  made_as : (es ds : List (List ℕ)) (n m : ℕ) (a b : List ℕ) → es ≡ ds → n ≡ m → a ≡ b → Made buf kind es n a → Made buf kind ds m b
  made_as es ds n m a b p q r w = rw (← p, ← q, ← r) w

  -- the message of some entries, made by a start and appends
  abbrev MadeOf : ℕ → List ℕ → Type 0
  MadeOf c t = Made buf kind (entries_of c kind t) (length t + 10) (at_front (message kind c t) buf)

  start_made : (e : List ℕ) → entries_fill 1 kind e ≡ true → size_of e ≤ greatest_size → MadeOf 1 e
  unfolding written_numbers entries_of entries_fill
  start_made e f z =
      let d = start_done buf kind e room (well_make kind e low f) z (at_front (message kind 1 e) buf) refl in
      let one = grown_list 0 kind kind [] e [] refl refl refl f in
      made_as (e ∷ []) (entries_of 1 kind e) (length e + 10) (length e + 10) (start_of buf kind e).buffer (at_front (message kind 1 e) buf)
      (sym one.0) refl (sym (ap (λ (o : Writing). o.buffer) d))
      (started e (length e + 10) (sym (ap (λ (o : Writing). o.answer) d)))

  append_made : (c : ℕ) (t e : List ℕ) → MadeOf c t → 0 < c → entries_fill c kind t ≡ true → entries_fill 1 kind e ≡ true → size_of (t ++ e) ≤ greatest_size
      → MadeOf (c + 1) (t ++ e)
  unfolding written_numbers
  append_made c t e w p f o z =
      let m = message kind c t in
      let l = message kind (c + 1) (t ++ e) in
      let lm = length_message kind c t in
      let ll = length_message kind (c + 1) (t ++ e) in
      let la = length-append t e in
      let b = at_front m buf in
      let lb = front_room m buf (omega arith) in
      let h = front_entries buf kind c t (omega arith) low p f in
      let d = append_done b kind e (length t + 10) (sym h.type) (well_make kind e low o) h.sound (omega arith) (at_front l b) (rw (h.number, h.body))
      ∙ append_sound_lem b kind e (omega arith) (length t + 10) h.sound in
      let more = grown_list c kind kind t e (entries_of c kind t) refl refl f o in
      made_as (entries_of c kind t ++ (e ∷ [])) (entries_of (c + 1) kind (t ++ e)) (length t + 10 + length e) (length (t ++ e) + 10) (append_of b kind e).buffer (at_front l buf)
      (sym more.0) (omega arith) (sym (ap (λ (o : Writing). o.buffer) d) ∙ front_twice m l buf (omega arith))
      (appended (entries_of c kind t) (length t + 10) b e (length t + 10 + length e) w (sym (ap (λ (o : Writing). o.answer) d)))

  make_from : (j : ℕ) (u t : List ℕ) (c : ℕ) → MadeOf c t → 0 < c → entries_fill c kind t ≡ true → entries_fill j kind u ≡ true → size_of (t ++ u) ≤ greatest_size
      → MadeOf (c + j) (t ++ u)
  unfolding entries_fill
  make_from zero u t c w p f g z = rw (nil_of u (eqb-true (length u) 0 g), append-nil t, add-zero) w
  make_from (suc j) u t c w p f g z =
      let q = entries_first j kind u g in
      let k = entry_size kind u in
      let e = take k u in
      let o = one_alone kind u q.0 in
      let both : t ++ e ++ drop k u ≡ t ++ u = append_assoc t e (drop k u) ∙ ap (λ (x : List ℕ). t ++ x) (take-append-drop k u) in
      let lb = ap length both in
      let la = length-append (t ++ e) (drop k u) in
      let z1 : size_of (t ++ e) ≤ greatest_size = omega arith in
      let more = grown_list c kind kind t e (entries_of c kind t) refl refl f o in
      let n : c + suc j ≡ c + 1 + j = omega arith in
      rw (n, ← both) (make_from j (drop k u) (t ++ e) (c + 1) (append_made c t e w p f o z1) (omega arith) more.1 q.1 (rw both z))

  entries_made : (c : ℕ) (t : List ℕ) → 0 < c → entries_fill c kind t ≡ true → size_of t ≤ greatest_size → MadeOf c t
  entries_made zero t p f z = absurd (not-suc-le-zero p)
  entries_made (suc c) t p f z =
      let q = entries_first c kind t f in
      let k = entry_size kind t in
      let e = take k t in
      let o = one_alone kind t q.0 in
      let both = take-append-drop k t in
      let lb = ap length both in
      let la = length-append e (drop k t) in
      let n : suc c ≡ 1 + c = omega arith in
      rw n (rw both at (make_from c (drop k t) e 1 (start_made e o (omega arith)) (omega arith) o q.1 (rw both z)))

count_some : (kind count : ℕ) → count_fault kind count ≡ None → 0 < count
unfolding count_fault
count_some kind count h =
    let p = cond_right (eqb count 0) (Some fault.Count) _ None h (λ e. let z : ◌≡◌ {A = ℕ} 0 1 = cc in omega arith) in
    let q = eqb-false count 0 p.0 in
    omega arith

pub entries_again : (s buf : List ℕ) (n : ℕ) → Octets s → least_room ≤ length buf → decide s ≡ Sound n → pdu_type s ≤ response
    → Made buf (pdu_type s) (entries_in s n) n (at_front (take n s) buf)
entries_again s buf n o room e k =
    let w = sound_at s n e in
    let h = sound_header s w.header in
    let b = sound_bounds s n e in
    let t = data_of s n in
    let l : length t + 10 ≡ n = omega (arith, length_data n s b.2) in
    made_as buf (pdu_type s) room k (entries_in s n) (entries_in s n) (length t + 10) n (at_front (message (pdu_type s) (message_count s) t) buf) (at_front (take n s) buf)
    refl l (ap (λ (m : List ℕ). at_front m buf) (sym (sound_message s n o e)))
    (entries_made buf (pdu_type s) room k (message_count s) t (count_some (pdu_type s) (message_count s) h.count) (sound_entries s n e k) (omega arith))

-- a keep-alive's data, from the form and value that it was read as
beat_again : (t : List ℕ) → Octets t → keep_alive_fill t ≡ true → (form value : ℕ) → heartbeat_numbers (heartbeat_of t) ≡ form ∷ value ∷ []
    → (beat_fits form value ≡ true) × (beat_bytes form value ≡ t)
unfolding keep_alive_fill heartbeat_numbers heartbeat_of form_of value_of beat_fits beat_bytes
beat_again t o f form value h = go (eqb (length t) seconds_bytes) refl f h
  where
    go : (b : Bool) → eqb (length t) seconds_bytes ≡ b → cond b true (eqb (length t) milliseconds_bytes) ≡ true
        → heartbeat_numbers (cond b (InSeconds (record { 0 = be16_at t 0 })) (InMilliseconds (record { 0 = be32_at t 0 }))) ≡ form ∷ value ∷ []
        → (beat_fits form value ≡ true) × (beat_bytes form value ≡ t)
    go true q f h =
        let l = eqb-true (length t) seconds_bytes q in
        let fe : form ≡ seconds_form = cc in
        let ve : value ≡ be16_at t 0 = cc in
        let es = eq-eqb form seconds_form fe in (
          simp (es, le-leb value greatest_seconds (omega (arith, be16_small t 0 o))),
          simp es (ap bytes16 ve ∙ bytes16_be16 t 0 o (omega arith) ∙ take_all 2 t (omega arith)),
        )
    go false q f h =
        let l = eqb-true (length t) milliseconds_bytes f in
        let fe : form ≡ milliseconds_form = cc in
        let ve : value ≡ be32_at t 0 = cc in
        let ns = ne_eqb form seconds_form (λ x. omega arith) in (
          simp (ns, eq-eqb form milliseconds_form fe),
          simp ns (ap bytes32 ve ∙ bytes32_be32 t 0 o (omega arith) ∙ take_all 4 t (omega arith)),
        )

-- bytes that are read as a keep-alive
pub read_beat : (s : List ℕ) (n : ℕ) (l : List ℕ) → read_of s ≡ 0 ∷ n ∷ keep_alive ∷ 1 ∷ l
    → length l ≡ 2 → (decide s ≡ Sound n) × (pdu_type s ≡ keep_alive) × (heartbeat_numbers (heartbeat_of (data_of s n)) ≡ l)
unfolding read_of read_by message_of
read_beat s n l h k = go (decide s) refl h
  where
    kept : (m : ℕ) → m ≡ n → decide s ≡ Sound m → (b : Bool) → eqb (pdu_type s) keep_alive ≡ b
        → cond b (keep_alive ∷ 1 ∷ heartbeat_numbers (heartbeat_of (data_of s m))) (pdu_type s ∷ message_count s ∷ []) ≡ keep_alive ∷ 1 ∷ l
        → (decide s ≡ Sound n) × (pdu_type s ≡ keep_alive) × (heartbeat_numbers (heartbeat_of (data_of s n)) ≡ l)
    kept m q d true b e =
        let r : heartbeat_numbers (heartbeat_of (data_of s m)) ≡ l = cc in
        (rw (← q) d, eqb-true (pdu_type s) keep_alive b, rw (← q) r)
    kept m q d false b e = absurd (omega (arith, ap length e))

    go : (d : Decision) → decide s ≡ d → read_by d s ≡ 0 ∷ n ∷ keep_alive ∷ 1 ∷ l
        → (decide s ≡ Sound n) × (pdu_type s ≡ keep_alive) × (heartbeat_numbers (heartbeat_of (data_of s n)) ≡ l)
    go Undecided d e = absurd (omega (arith, ap length e))
    go (Faulty f m) d e = absurd (omega (arith, ap length e))
    go (Sound m) d e =
        let q : m ≡ n = cc in
        let r : message_of s m ≡ keep_alive ∷ 1 ∷ l = cc in
        kept m q d (eqb (pdu_type s) keep_alive) refl r

count_one : (count : ℕ) → count_fault keep_alive count ≡ None → count ≡ 1
unfolding count_fault
count_one count h =
    let p = cond_right (eqb count 0) (Some fault.Count) _ None h (λ e. let z : ◌≡◌ {A = ℕ} 0 1 = cc in omega arith) in
    eqb-true count 1 (cond_left (eqb count 1) None (Some fault.Count) None p.1 (λ e. let z : ◌≡◌ {A = ℕ} 0 1 = cc in omega arith)).0

pub keep_again : (s buf : List ℕ) (n form value : ℕ) → Octets s → least_room ≤ length buf
    → read_of s ≡ 0 ∷ n ∷ keep_alive ∷ 1 ∷ form ∷ value ∷ [] → keep_alive_of buf form value ≡ written (take n s) buf
keep_again s buf n form value o room h =
    let r = read_beat s n (form ∷ value ∷ []) h refl in
    let w = sound_at s n r.0 in
    let c = count_one (message_count s) (rw r.1 at (sound_header s w.header).count) in
    let t = data_of s n in
    let b = beat_again t (octets_drop 10 (take n s) (octets_take n s o)) (keep_data s n w r.1) form value r.2 in
    let m : take n s ≡ message keep_alive 1 (beat_bytes form value) =
    sound_message s n o r.0 ∙ rw (r.1, c, b.1) in
    rw m (sym (beat_good buf form value room b.0))
