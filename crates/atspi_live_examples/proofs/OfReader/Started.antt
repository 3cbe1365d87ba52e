-- What a reader that has started speaks and says: what holds of bytes that have no message, and of its first line.
use Rattle.std.proofs.Common.{◌≡◌, ◌<◌, ◌≤◌, ◌≢◌, ℕ, List, [], ◌∷◌, ◌++◌, fold, refl, sym, ap, ◌∙◌, inl, inr, append-nil, append_assoc, arith, lit<, lit≤}
use Rattle.std.specs.Prelude.{codes}
use Rattle.std.specs.Fmt.{digits}
use Rattle.atspi_auth.specs.Lines.{lines_of, joined}
use Rattle.atspi_auth.specs.Replies.{answer, reply_to}
use Rattle.atspi_auth.specs.Requests.{is_grant, is_number}
use Rattle.atspi_auth.specs.Talk.{behind, client_start, heard, hears, hears_bytes}
use Rattle.atspi_auth.proofs.LinesLemmas.{joined-lines_of}
use Rattle.atspi_base.specs.Digits.{hex_digits}
use Rattle.atspi_trace_texts.specs.Rows.{last_number, node_text}
use Rattle.atspi_tree_model.specs.Path.{path_of}
use Rattle.atspi_tables.specs.Roles.{role_names, role_words}
use Rattle.atspi_types.specs.declared.fault.Order.{Order}
use Rattle.atspi_types.specs.declared.fault.Order.TheVariants.{Little, Big}
use Rattle.atspi_message.specs.Bytes.{IsMessage, header_bytes, order_byte, spelled_with}
use Rattle.atspi_message.specs.Envelope.{Envelope}
use Rattle.atspi_message.specs.Front.{WrongFront, fields_too_long, no_order, no_serial, no_type, no_version, too_long}
use Rattle.atspi_types.specs.SignatureFaults.{Before}
use Rattle.atspi_stream.specs.Stream.{AreMessages, AwaitsMore, HasFault, IsParted, behind as behind_front, bytes_of, few, in_front, unfinished}
use Rattle.atspi_protocol.specs.following.ReaderState.{Done, Followed, ReaderState, begins, sends, speaks, tells_end}
use Rattle.atspi_protocol.specs.following.Takes.{reader_takes, starts}
use Rattle.atspi_live_conversation.specs.Speech.{IsSpeech, envelopes, line_bytes, lines_for}
use Rattle.atspi_live_reader.specs.Shows.{shown_in}
use Rattle.atspi_live_reader.specs.Spoken.{IsAfter, IsSpoken, following, spoken_in}
use Rattle.atspi_live_examples.specs.reader.Held.{said, shows, told, two_known}
use Rattle.atspi_live_examples.specs.reader.Started.{granted, hail, hello, zeros}

-- behind the lines that let a client in stand the bytes of messages
pub behind_granted : (bytes : List ℕ) → behind client_start (granted ++ bytes) ≡ bytes
unfolding heard hears hears_bytes lines_of joined answer reply_to is_grant is_number
behind_granted bytes = joined-lines_of bytes

pub bare_granted : behind client_start granted ≡ []
bare_granted = ap (λ (t : List ℕ). behind client_start t) (sym (append-nil granted)) ∙ behind_granted []

pub none_first : behind client_start [] ≡ []
unfolding heard hears hears_bytes lines_of joined answer reply_to is_grant is_number
none_first = refl

-- a message begins with the byte of its order
begun : (e : Envelope) (m more : List ℕ) (b : ℕ) (bytes : List ℕ) → IsMessage e m → m ++ more ≡ b ∷ bytes → order_byte e.order ≡ b
unfolding header_bytes spelled_with
begun e m more b bytes is front =
    let whole : spelled_with e is.fields ++ more ≡ b ∷ bytes = ap (λ (w : List ℕ). w ++ more) (sym is.spelled) ∙ front in
    first whole
  where
    first : {x y : ℕ} {xs ys : List ℕ} → x ∷ xs ≡ y ∷ ys → x ≡ y
    first h = cc

not_zero : (o : Order) → order_byte o ≡ 0 → ⊥
not_zero Little h = cc
not_zero Big h = cc

pub not_empty : (e : Envelope) (m more : List ℕ) → IsMessage e m → m ++ more ≡ [] → ⊥
unfolding header_bytes spelled_with
not_empty e m more is front =
    let whole : spelled_with e is.fields ++ more ≡ [] = ap (λ (w : List ℕ). w ++ more) (sym is.spelled) ∙ front in
    none whole
  where
    none : {x : ℕ} {xs : List ℕ} → x ∷ xs ≡ [] → ⊥
    none h = cc

-- so none stands in no bytes, nor in those zeros
pub none_parted : (bytes : List ℕ) (messages : List (Envelope × List ℕ)) (rest : List ℕ) → bytes ≡ [] → IsParted bytes messages rest → messages ≡ []
none_parted bytes [] rest none p = refl
none_parted bytes (m ∷ messages) rest none p =
    absurd (not_empty m.0 m.1 (bytes_of messages ++ rest) p.are.0 (sym (append_assoc m.1 (bytes_of messages) rest) ∙ sym p.parted ∙ none))

pub none_in_zeros : (bytes : List ℕ) (messages : List (Envelope × List ℕ)) (rest : List ℕ) → bytes ≡ zeros → IsParted bytes messages rest → messages ≡ []
none_in_zeros bytes [] rest are p = refl
none_in_zeros bytes (m ∷ messages) rest are p =
    absurd (not_zero m.0.order (begun m.0 m.1 (bytes_of messages ++ rest) 0 _ p.are.0 (sym (append_assoc m.1 (bytes_of messages) rest) ∙ sym p.parted ∙ are)))

rest_is : {bytes rest : List ℕ} (messages : List (Envelope × List ℕ)) → messages ≡ [] → IsParted bytes messages rest → rest ≡ bytes
rest_is [] none p = sym p.parted
rest_is (m ∷ messages) none p = absurd cc

-- behind the lines, what is left where no message stands
pub rest_of_granted : (messages : List (Envelope × List ℕ)) (rest : List ℕ) → IsParted (behind client_start granted) messages rest → (messages ≡ []) × (rest ≡ [])
rest_of_granted messages rest p =
    let none = none_parted (behind client_start granted) messages rest bare_granted p in
    (none, rest_is messages none p ∙ bare_granted)

pub rest_of_zeros : (messages : List (Envelope × List ℕ)) (rest : List ℕ) → IsParted (behind client_start (granted ++ zeros)) messages rest → (messages ≡ []) × (rest ≡ zeros)
rest_of_zeros messages rest p =
    let none = none_in_zeros (behind client_start (granted ++ zeros)) messages rest (behind_granted zeros) p in
    (none, rest_is messages none p ∙ behind_granted zeros)

-- what is spoken begins with `say `, so that half a line is never all
pub not_half : (ds : List Done) → codes "say" ≡ spoken_in ds → ⊥
not_half [] h = cc
not_half (sends e ∷ ds) h = not_half ds h
not_half (speaks name text ∷ ds) h = cc
not_half (tells_end name ∷ ds) h = not_half ds h

-- the first bytes of equal lists are equal
pub first_is : {x y : ℕ} {xs ys : List ℕ} → x ∷ xs ≡ y ∷ ys → x ≡ y
first_is h = cc

pub tail_is : {x y : ℕ} {xs ys : List ℕ} → x ∷ xs ≡ y ∷ ys → xs ≡ ys
tail_is h = cc

apart : ◌≡◌ {A = ℕ} 120 115 → ⊥
apart h = omega (arith, h)

pub not_other : (left : List ℕ) (ds : List Done) → codes "x" ++ left ≡ spoken_in ds → ⊥
not_other left [] h = cc
not_other left (sends e ∷ ds) h = not_other left ds h
not_other left (speaks name text ∷ ds) h = apart (first_is h)
not_other left (tells_end name ∷ ds) h = not_other left ds h

-- its first call is no line
silent : (done more : List Done) → done ++ more ≡ sends hello ∷ [] → spoken_in done ≡ []
silent [] more h = refl
silent (d ∷ []) more h = let first : d ≡ sends hello = cc in ap (λ (x : Done). spoken_in (x ∷ [])) first
silent (d ∷ e ∷ done) more h = absurd cc

pub none_spoken : (t w : List ℕ) → behind client_start t ≡ [] → IsSpoken t w → w ≡ []
none_spoken t w none s = by w s.left (s.front ∙ silent s.done s.more (s.all ∙ ap (λ (ms : List (Envelope × List ℕ)). (following (envelopes ms)).out) (none_parted (behind client_start t) s.messages s.rest none s.parted)))
  where
    by : (w left : List ℕ) → w ++ left ≡ [] → w ≡ []
    by [] left h = refl
    by (b ∷ w) left h = absurd cc

-- a front of the lines, for whole messages that make a reader do what is told
pub fronts : (t : List ℕ) (messages : List (Envelope × List ℕ)) (rest w left : List ℕ) → behind client_start t ≡ bytes_of messages ++ rest → AreMessages messages → (following (envelopes messages)).out ≡ told → w ++ left ≡ spoken_in told → IsSpoken t w
fronts t messages rest w left b are out front = record {
  messages = messages;
  rest = rest;
  parted = record { are = are; parted = b };
  done = told;
  more = [];
  all = sym out;
  left = left;
  front = front;
}

pub lines_told : {ds : List Done} → ds ≡ told → said ≡ spoken_in ds
unfolding lib.Utf8.encode
lines_told out = sym (ap (λ (ds : List Done). spoken_in ds) out)

pub rows_shown : (s : ReaderState) → s.apps ≡ two_known.apps → shows ≡ shown_in s
unfolding digits hex_digits last_number node_text path_of role_names role_words lib.Utf8.encode
rows_shown s e = sym (ap (λ (apps : List Followed). shown_in (record begins { apps = apps })) e)

pub all_shown : (s : ReaderState) → s.out ≡ told → s.apps ≡ two_known.apps → said ++ shows ≡ spoken_in s.out ++ shown_in s
all_shown s out apps = ap (λ (w : List ℕ). w ++ shows) (lines_told out) ∙ ap (λ (w : List ℕ). spoken_in s.out ++ w) (rows_shown s apps)

-- sixteen zeros have their fault at the first
not_little : ◌≢◌ {A = ℕ} 0 108
not_little h = cc

not_big : ◌≢◌ {A = ℕ} 0 66
not_big h = cc

first_of_zeros : (q s : ℕ) → WrongFront zeros q s → Before 0 22 q s
first_of_zeros q s (no_order a b) = inr (refl, lit≤ tt)
first_of_zeros q s (no_type a) = inl (lit< tt)
first_of_zeros q s (no_version a) = inl (lit< tt)
first_of_zeros q s (too_long a) = inl (lit< tt)
first_of_zeros q s (no_serial a) = inl (lit< tt)
first_of_zeros q s (fields_too_long a) = inl (lit< tt)

pub zeros_fault : HasFault zeros 0 22
zeros_fault = in_front (lit≤ tt) (record { there = no_order not_little not_big; first = first_of_zeros })

later : (p r : ℕ) → 0 < p → Before p r 0 22 → ⊥
later p r h (inl f) = omega (arith, h, f)
later p r h (inr f) = omega (arith, h, f.0)

at_first : (p r : ℕ) → WrongFront zeros p r → Before p r 0 22 → (p ≡ 0) × (r ≡ 22)
at_first p r (no_order a b) f = (refl, refl)
at_first p r (no_type a) f = absurd (later 1 23 (lit< tt) f)
at_first p r (no_version a) f = absurd (later 3 24 (lit< tt) f)
at_first p r (too_long a) f = absurd (later 4 25 (lit< tt) f)
at_first p r (no_serial a) f = absurd (later 8 26 (lit< tt) f)
at_first p r (fields_too_long a) f = absurd (later 12 27 (lit< tt) f)

sixty_six : (◌≢◌ {A = ℕ} 0 108 → ◌≡◌ {A = ℕ} 0 66) → ⊥
sixty_six h = not_big (h not_little)

pub only_fault : (p r : ℕ) → HasFault zeros p r → (p ≡ 0) × (r ≡ 22)
only_fault p r (in_front long f) = at_first p r f.there (f.first 0 22 (no_order not_little not_big))
only_fault p r (behind_front long sound stated f) = absurd (sixty_six sound.ordered)

pub none_awaited : AwaitsMore zeros → ⊥
none_awaited (few h) = by h
  where
    by : 16 < 16 → ⊥
    by h = omega (arith, h)
none_awaited (unfinished long sound short) = sixty_six sound.ordered

pub no_fault : (p r : ℕ) → HasFault [] p r → ⊥
no_fault p r (in_front long f) = by long
  where
    by : 16 ≤ 0 → ⊥
    by h = omega (arith, h)
no_fault p r (behind_front long sound stated f) = by long
  where
    by : 16 ≤ 0 → ⊥
    by h = omega (arith, h)

pub none_in_front : (e : Envelope) (m more : List ℕ) → IsMessage e m → m ++ more ≡ zeros → ⊥
none_in_front e m more is h = not_zero e.order (begun e m more 0 (0 ∷ 0 ∷ 0 ∷ 0 ∷ 0 ∷ 0 ∷ 0 ∷ 0 ∷ 0 ∷ 0 ∷ 0 ∷ 0 ∷ 0 ∷ 0 ∷ 0 ∷ []) is h)

-- one more message
pub followed_by : (es : List Envelope) (e : Envelope) (s : ReaderState) → fold reader_takes s (es ++ e ∷ []) ≡ reader_takes (fold reader_takes s es) e
followed_by [] e s = refl
followed_by (x ∷ es) e s = followed_by es e (reader_takes s x)

-- what a reader says first
pub lines_first : line_bytes (lines_for []) ≡ hail
unfolding heard hears hears_bytes lines_of joined answer reply_to is_grant is_number
lines_first = refl

pub stands_first : IsAfter (starts begins) [] []
stands_first = record { done = []; whole = refl; sent = refl; numbered = lit≤ tt }

pub said_first : (g more : List ℕ) → g ++ more ≡ hail → IsSpeech IsAfter [] g
said_first g more h = record {
  messages = [];
  rest = [];
  parted = record { are = tt; parted = none_first };
  end = starts begins;
  said = [];
  stands = stands_first;
  sent = [];
  spelled = refl;
  over = inl refl;
  more = more;
  front = h ∙ sym lines_first ∙ sym (append-nil (line_bytes (lines_for [])));
}

pub not_said_first : IsSpeech IsAfter [] (codes "x") → ⊥
not_said_first s = by s.more s.sent (s.front ∙ ap (λ (w : List ℕ). w ++ s.sent) lines_first)
  where
    by : (more sent : List ℕ) → codes "x" ++ more ≡ hail ++ sent → ⊥
    by more sent h = cc
