-- The loop's state: how it begins, how a turn carries it on, and what it comes to. Assumes nothing.
use Prim.Native.Nat.{ℕ, ◌+◌, ◌≤◌, ◌<◌}
use mathlib.Core.Path.{◌≡◌, refl, sym, ap, ◌∙◌, subst}
use mathlib.Core.List.{List, [], ◌∷◌, ◌++◌, append_assoc, append-nil}
use mathlib.Core.Bool.{Bool, true, false, cond}
use native.Mathlib.Omega.{arith}
use native.Mathlib.Nat.{zero-add}
use lib.Dec.{eqb}
use lib.ListN.{length, take, drop, length-drop, length-append, take-append-drop}
use lib.Seq.{take_all}
use Rattle.std.proofs.lemmas.List.{drop_all}
use borrow.Author.Tests.{eqb-true}
use Rattle.std.specs.Prelude.{IfSome, Some, None, Ok, Err, IsOk, ◌≢◌}
use Rattle.std.specs.declared.result.Result.{Result}
use Rattle.std.specs.declared.option.Option.{Option}
use Rattle.std.specs.Io.KnownBytes.{Consumes, Appends, IsAtEnd}
use Rattle.std.proofs.KnownBytes.{Consumes-nil, Consumes-trans, Appends-nil, Appends-trans}
use Rattle.split.specs.Split.{sound_messages}
use Rattle.split.proofs.Splits.{sound_none_lem}
use Rattle.lister.specs.Listing.{bytes_of, lines_of, listed_bytes, unlisted, listing_from, listing}
use Rattle.lister.specs.Pieces.{over, piece_text, printed}
use Rattle.lister.proofs.Walks.{lines_append, nothing_unsound}
use Rattle.lister.proofs.Cuts.{end_over, listed_within, listed_more, unlisted_more, messages_more, listing_more, pieces_laws}
use Rattle.turns.specs.Turns.{turn_text, Turned}
use Rattle.turns.specs.Ends.{ListingRuns, ListingEnds}
use Rattle.turns.specs.Scaffold.{greatest_offset}
use Rattle.turns.proofs.Worlds.{no_room}
use Rattle.turns.specs.declared.Held.{Held}
use Rattle.turns.specs.declared.Stopped.{Stopped}
use Rattle.turns.specs.declared.Stopped.TheVariants.{Unread, Unsaid, Limit}

-- known bytes are those that were read and those that are left
known : (a b : Option (List ℕ)) (bs : List ℕ) (P : List ℕ → Type 0) → Consumes a b bs → ((l : List ℕ) → b ≡ Some l → P (bs ++ l)) → IfSome a P
known None b bs P p h = tt
known (Some x) None bs P p h = absurd p
known (Some x) (Some y) bs P p h = subst P (sym p) (h y refl)

-- what is left, where it is known
abbrev behind : Option (List ℕ) → List ℕ
behind None = []
behind (Some l) = l

behind_is : (b : Option (List ℕ)) (l : List ℕ) → b ≡ Some l → behind b ≡ l
behind_is b l e = ap behind e

nothing_left : (b : Option (List ℕ)) → IsAtEnd b → behind b ≡ []
nothing_left None e = refl
nothing_left (Some l) e = e

-- nothing was read
pub running_none : (left text : Option (List ℕ)) (input : List ℕ) → ListingRuns left left text text input 0 0
unfolding listed_bytes unlisted bytes_of lines_of
running_none left text input =
    let n = sound_none_lem [] (nothing_unsound [] (omega arith)) in
    record {
      seen = [];
      said = [];
      count = refl;
      listed = rw n;
      left_is = rw n;
      lines = rw n;
      read = Consumes-nil left;
      kept = Appends-nil text;
    }

-- the text of a piece, and then what the rest comes to
piece_listing : (e : Bool) (at : ℕ) (s rest : List ℕ) → (e ≡ true → rest ≡ [])
    → listing_from at (s ++ rest) ≡ piece_text e at s ++ cond (over e s) [] (listing_from (at + listed_bytes s) (unlisted s ++ rest))
unfolding printed
piece_listing false at s rest h =
    let t = piece_text false at s in
    let k = at + listed_bytes s in
    let l : printed at [] (s ∷ rest ∷ []) ≡ listing_from at (s ++ rest) =
    pieces_laws.from at [] (s ∷ rest ∷ []) ∙ ap (λ (x : List ℕ). listing_from at (s ++ x)) (append-nil rest) in
    let m : printed k (unlisted s) (rest ∷ []) ≡ listing_from k (unlisted s ++ rest) =
    pieces_laws.from k (unlisted s) (rest ∷ []) ∙ ap (λ (x : List ℕ). listing_from k (unlisted s ++ x)) (append-nil rest) in
    sym l ∙ ap (λ (x : List ℕ). t ++ cond (over false s) [] x) m
piece_listing true at s rest h =
    let l : piece_text true at s ≡ listing_from at (s ++ []) = pieces_laws.from at s [] in
    rw (h refl, end_over s, append-nil (piece_text true at s)) (sym l)

-- the bytes listed, and those that are not
listed_left : (x : List ℕ) → listed_bytes x + length (unlisted x) ≡ length x
unfolding unlisted
listed_left x = omega (arith, listed_within x, length-drop (listed_bytes x) x)

-- the text of a piece behind which the listing goes on
text_on : (e : Bool) (at : ℕ) (x : List ℕ) → over e x ≡ false → piece_text e at x ≡ lines_of at (sound_messages x)
unfolding piece_text
text_on e at x o = rw (o, append-nil (lines_of at (sound_messages x)))

-- a text cut in two
cut : (n : ℕ) (a b c : List ℕ) → (a ++ take n b) ++ (drop n b ++ c) ≡ a ++ (b ++ c)
cut n a b c =
    append_assoc a (take n b) (drop n b ++ c)
    ∙ ap (λ (x : List ℕ). a ++ x) (sym (append_assoc (take n b) (drop n b) c) ∙ ap (λ (x : List ℕ). x ++ c) (take-append-drop n b))

-- an error of the loop, and the place at which the offset came to its limit
abbrev the_stop : Stopped → Result (Unit {0}) Stopped
the_stop e = Err e

same_error : {r : Result (Option Held) Stopped} (a b : Stopped) → r ≡ Err a → r ≡ Err b → the_stop a ≡ the_stop b
same_error a b p q = cc

stop_is : (a b : Stopped) → the_stop a ≡ the_stop b → a ≡ b
stop_is a b e = cc

at_limit : (a b : Held) → the_stop (Limit a) ≡ the_stop (Limit b) → a ≡ b
at_limit a b e = cc

-- a piece that is not empty goes on by the test of one that does not end the input
still_on : (piece s : List ℕ) → 0 < length piece → over false s ≡ false → over (eqb (length piece) 0) s ≡ false
still_on piece s h o = go (eqb (length piece) 0) refl
  where
    go : (b : Bool) → eqb (length piece) 0 ≡ b → over b s ≡ false
    go true e = absurd (omega (arith, eqb-true (length piece) 0 e))
    go false e = o

module _ {left₀ left text₀ text : Option (List ℕ)} {input : List ℕ} {offset held : ℕ} (g : ListingRuns left₀ left text₀ text input offset held) where
  -- whatever follows what was read
  goes_on_with : (rest : List ℕ) → listing (g.seen ++ rest) ≡ g.said ++ listing_from offset (take held input ++ rest)
  unfolding listing
  goes_on_with rest = rw (listing_more 0 g.seen rest, g.lines, g.left_is, g.listed, zero-add)

  module _ {left' text' : Option (List ℕ)} {sure : Bool} {room room' : Option ℕ} {input' out : List ℕ} {r : Result (Option Held) Stopped} (t : Turned left left' sure text text' room room' offset (take held input) input' out r) where
    s : List ℕ
    s = take held input ++ t.piece

    e₀ : Bool
    e₀ = eqb (length t.piece) 0

    seen : List ℕ
    seen = g.seen ++ t.piece

    -- the listing of what was read and of what follows
    from_here : (rest : List ℕ) → (e₀ ≡ true → rest ≡ [])
        → listing (seen ++ rest) ≡ g.said ++ (piece_text e₀ offset s ++ cond (over e₀ s) [] (listing_from (offset + listed_bytes s) (unlisted s ++ rest)))
    unfolding seen s e₀
    from_here rest h =
        rw (append_assoc g.seen t.piece rest, goes_on_with (t.piece ++ rest), ← append_assoc (take held input) t.piece rest)
        (ap (λ (x : List ℕ). g.said ++ x) (piece_listing (eqb (length t.piece) 0) offset (take held input ++ t.piece) rest h))

    seen_read : Consumes left₀ left' seen
    unfolding seen
    seen_read = Consumes-trans left₀ left left' g.seen t.piece g.read t.read

    -- a turn that is not the last
    pub running_more : (h : Held) → r ≡ Ok (Some h) → ListingRuns left₀ left' text₀ text' input' h.offset h.held
    unfolding seen s listed_bytes
    running_more h o =
        let q = t.goes h o in
        let a = g.seen in
        let b = unlisted a ++ t.piece in
        let sb : take held input ++ t.piece ≡ b = ap (λ (x : List ℕ). x ++ t.piece) g.left_is in
        let e : h.offset ≡ listed_bytes (a ++ t.piece) = q.next ∙ rw (sb, g.listed, listed_more a t.piece) in
        let l : unlisted (take held input ++ t.piece) ≡ unlisted (a ++ t.piece) = ap unlisted sb ∙ sym (unlisted_more a t.piece) in
        let n : h.held ≡ length (unlisted (a ++ t.piece)) = q.count ∙ ap length l in
        let w = turn_text offset (take held input) t.piece in
        let v : take t.taken w ≡ lines_of offset (sound_messages b) =
        take_all t.taken w (omega (arith, t.all (rw o refl))) ∙ text_on (eqb (length t.piece) 0) offset (take held input ++ t.piece) (still_on t.piece (take held input ++ t.piece) q.some q.on) ∙ rw sb in
        record {
          seen = a ++ t.piece;
          said = g.said ++ lines_of offset (sound_messages b);
          count = rw (e, n) (listed_left (a ++ t.piece));
          listed = e;
          left_is = q.kept ∙ l;
          lines = rw (messages_more (length a) a t.piece (omega arith), lines_append 0 (sound_messages a) (sound_messages b), g.lines, g.listed, zero-add);
          read = seen_read;
          kept = subst (λ x. Appends text₀ text' (g.said ++ x)) v (Appends-trans text₀ text text' g.said (take t.taken w) g.kept t.takes);
        }

    -- what was not handed over, if so many bytes follow
    unsaid_of : List ℕ → List ℕ
    unsaid_of rest = drop t.taken (piece_text e₀ offset s) ++ cond (over e₀ s) [] (listing_from (offset + listed_bytes s) (unlisted s ++ rest))

    front_of : (rest : List ℕ) → (e₀ ≡ true → rest ≡ []) → (g.said ++ take t.taken (piece_text e₀ offset s)) ++ unsaid_of rest ≡ listing (seen ++ rest)
    unfolding unsaid_of
    front_of rest h = cut t.taken g.said (piece_text e₀ offset s) _ ∙ sym (from_here rest h)

    -- all was
    all_said : (o : r ≡ Ok None) → (rest : List ℕ) → unsaid_of rest ≡ []
    unfolding unsaid_of s e₀
    all_said o rest = rw (t.last o, drop_all t.taken (piece_text e₀ offset s) (omega (arith, t.all (rw o refl))))

    -- the bytes that are left behind the piece, which are none where it ends the input
    ended : r ≢ Err Unread → e₀ ≡ true → behind left' ≡ []
    unfolding e₀
    ended u z = nothing_left left' (t.end u (eqb-true (length t.piece) 0 z))

    -- the last turn: all of its text was handed over, or something failed
    longer : r ≢ Err Unread → (l : List ℕ) → left' ≡ Some l → length g.said + length (piece_text e₀ offset s) ≤ length (listing (seen ++ l))
    longer u l i =
        let c = cond (over e₀ s) [] (listing_from (offset + listed_bytes s) (unlisted s ++ l)) in
        let h : e₀ ≡ true → l ≡ [] = λ z. sym (behind_is left' l i) ∙ ended u z in
        omega (arith, ap length (from_here l h), length-append g.said (piece_text e₀ offset s ++ c), length-append (piece_text e₀ offset s) c)

    running_last : (x : Result (Unit {0}) Stopped) → (IsOk x → r ≡ Ok None) → ((e : Stopped) → x ≡ Err e → r ≡ Err e) → ListingEnds left₀ left' sure text₀ text' room x
    unfolding seen s e₀
    running_last x fine failed =
        let w = piece_text e₀ offset s in
        let f = front_of [] (λ z. refl) ∙ ap listing (append-nil seen) in
        let read_on : x ≢ Err Unread → r ≢ Err Unread = still_read x fine failed in
        record {
          seen = seen;
          said = g.said ++ take t.taken w;
          unsaid = unsaid_of [];
          front = f;
          whole = λ o. sym (append-nil (g.said ++ take t.taken w)) ∙ ap (λ (y : List ℕ). (g.said ++ take t.taken w) ++ y) (sym (all_said (fine o) [])) ∙ f;
          limit = λ h e. absurd (t.counted h (failed (Limit h) e));
          count = λ h e. absurd (t.counted h (failed (Limit h) e));
          read = seen_read;
          kept = Appends-trans text₀ text text' g.said (take t.taken w) g.kept t.takes;
          told = λ y e. t.told y (failed Unread e);
          rest = unsaid_of (behind left');
          known_front = λ u. known left₀ left' seen (λ x. (g.said ++ take t.taken w) ++ unsaid_of (behind left') ≡ listing x) seen_read (λ l i. rw (← behind_is left' l i) (front_of (behind left') (ended (read_on u))));
          known_whole = λ o. all_said (fine o) (behind left');
          full = λ e. known left₀ left' seen (λ x. IfSome room (λ n. IfSome text₀ (λ k. n < length k + length (listing x)))) seen_read
              (λ l i. no_room room text₀ text g.said w (length (listing (seen ++ l))) g.kept (longer (said_read (failed Unsaid e)) l i) (t.full (failed Unsaid e)));
        }
      where
        still_read : (x : Result (Unit {0}) Stopped) → (IsOk x → r ≡ Ok None) → ((e : Stopped) → x ≡ Err e → r ≡ Err e) → x ≢ Err Unread → r ≢ Err Unread
        still_read (Ok y) fine failed n e = let q = fine refl in cc
        still_read (Err z) fine failed n e = n (same_error z Unread (failed z refl) e)

        said_read : r ≡ Err Unsaid → r ≢ Err Unread
        said_read q e = cc

    pub running_over : r ≡ Ok None → ListingEnds left₀ left' sure text₀ text' room (Ok tt)
    running_over o = running_last (Ok tt) (λ x. o) (λ e q. cc)

    pub running_failed : (e : Stopped) → r ≡ Err e → ListingEnds left₀ left' sure text₀ text' room (Err e)
    running_failed e o = running_last (Err e) (λ x. cc) (λ f q. o ∙ ap Err (stop_is e f q))

  -- the offset's limit
  pub running_limit : (sure : Bool) (room : Option ℕ) → greatest_offset ≤ offset
      → ListingEnds left₀ left sure text₀ text room (Err (Limit (record { offset = offset; held = held })))
  running_limit sure room n =
      record {
        seen = g.seen;
        said = g.said;
        unsaid = listing_from offset (take held input ++ []);
        front = sym (goes_on_with []) ∙ ap listing (append-nil g.seen);
        whole = λ x. cc;
        limit = λ h e. rw (← at_limit _ h e) n;
        count = λ h e. rw (← at_limit _ h e) g.count;
        read = g.read;
        kept = g.kept;
        told = λ x e. cc;
        rest = listing_from offset (take held input ++ behind left);
        known_front = λ u. known left₀ left g.seen (λ x. g.said ++ listing_from offset (take held input ++ behind left) ≡ listing x) g.read (λ l i. rw (← behind_is left l i) (sym (goes_on_with (behind left))));
        known_whole = λ x. cc;
        full = λ x. cc;
      }

-- the same room
pub ends_same : {left₀ left text₀ text : Option (List ℕ)} {sure : Bool} {room room₀ : Option ℕ} {r : Result (Unit {0}) Stopped} → room ≡ room₀ → ListingEnds left₀ left sure text₀ text room r → ListingEnds left₀ left sure text₀ text room₀ r
ends_same {left₀} {left} {text₀} {text} {sure} {room} {room₀} {r} e z = subst (λ m. ListingEnds left₀ left sure text₀ text m r) e z
