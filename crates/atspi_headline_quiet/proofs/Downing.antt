-- THE LINKS FROM THE BUS: of an end that is here, what was delivered to it is what it took and what lies on its link, and the bytes moved are those of the first and the mark.
use Rattle.std.proofs.Common.{◌≡◌, ℕ, ◌+◌, ◌-◌, ◌<◌, ◌≤◌, false, List, [], ◌∷◌, ◌++◌, length, map, refl, sym, ap, ap₂, ◌∙◌, subst, arith}
use Rattle.std.specs.FinMap.{FinMap}
use Rattle.std.specs.Ordering.{nat_cmp}
use Rattle.std.specs.List.{AllByRecursion}
use Rattle.std.proofs.lemmas.List.{append_assoc}
use Rattle.atspi_message.specs.Envelope.{Envelope}
use Rattle.atspi_script_lines.specs.declared.line.Party.{Party}
use Rattle.atspi_match.specs.routing.Queues.{queue_of}
use Rattle.atspi_trace.specs.World.{Letter, End}
use Rattle.atspi_headline.specs.Words.{Act}
use Rattle.atspi_headline.specs.Links.{moved, Delivery, deliveries, letters, size, sizes}
use Rattle.atspi_headline_laws.proofs.Ran.{letter_bytes}
use Rattle.atspi_headline_quiet.proofs.Marking.{DownMark, HasMarks}
use Rattle.atspi_headline_quiet.proofs.Waiting.{downs, downs_sized}
use Rattle.atspi_headline_quiet.proofs.Filling.{Gains, LetIn, total}
use Rattle.atspi_headline_quiet.proofs.Walking.{pair, to_one, to_more, moved_more}
use Rattle.atspi_headline_quiet.proofs.Delivering.{AllFit, fit_more, fits_on, Marked, letters_more, sizes_more}

pub record DownTie (run : List Act) (quota : ℕ) (q : FinMap nat_cmp (List ℕ)) (k : ℕ) (e : End) (ahead : ℕ) : Type 0 where
  pub fits : AllFit quota [] (to_one e.who (deliveries run))
  pub taken : List (Party × Envelope)
  pub whole : letters (to_one e.who (deliveries run)) ≡ taken ++ downs e
  pub count : moved run e.who false ≡ (sizes taken + e.down_moved) + ahead
  pub queue : length (queue_of q k) ≡ letter_bytes e.down - e.down_moved

-- acts that hand it nothing: its link stays
pub down_stays : (run acts : List Act) (quota : ℕ) (q p : FinMap nat_cmp (List ℕ)) (k : ℕ) (e d : End) (ahead next : ℕ) → DownTie run quota q k e ahead → deliveries (run ++ acts) ≡ deliveries run → d.who ≡ e.who → d.down ≡ e.down → d.down_moved ≡ e.down_moved
    → queue_of p k ≡ queue_of q k → ahead + moved acts e.who false ≡ next → DownTie (run ++ acts) quota p k d next
down_stays run acts quota q p k e d ahead next t handed who down mark queues more =
    let same : to_one d.who (deliveries (run ++ acts)) ≡ to_one e.who (deliveries run) = ap₂ to_one who handed in
    let far : moved (run ++ acts) d.who false ≡ moved run e.who false + moved acts e.who false = ap (λ x. moved (run ++ acts) x false) who ∙ moved_more run acts e.who false in
    record {
      fits = subst (AllFit quota []) (sym same) t.fits;
      taken = t.taken;
      whole = ap letters same ∙ t.whole ∙ ap (λ l. t.taken ++ map pair l) (sym down);
      count = sum (moved (run ++ acts) d.who false) (moved run e.who false) (moved acts e.who false) (sizes t.taken) e.down_moved d.down_moved far t.count mark more;
      queue = ap length queues ∙ t.queue ∙ ap₂ (λ l m. letter_bytes l - m) (sym down) (sym mark);
    }
  where
    sum : (x y z s m n : ℕ) → x ≡ y + z → y ≡ (s + m) + ahead → n ≡ m → ahead + z ≡ next → x ≡ (s + n) + next
    sum x y z s m n h g i f = omega (arith, h, g, i, f)

letter_more : (xs ys : List Letter) → letter_bytes (xs ++ ys) ≡ letter_bytes xs + total ys
letter_more [] [] = omega arith
letter_more [] (y ∷ ys) = let ih : letter_bytes ys ≡ 0 + total ys = letter_more [] ys in omega (arith, ih)
letter_more (x ∷ xs) ys = let ih : letter_bytes (xs ++ ys) ≡ letter_bytes xs + total ys = letter_more xs ys in omega (arith, ih)

mark_low : (moved_ : ℕ) (l : List Letter) → DownMark moved_ l → moved_ ≤ letter_bytes l
mark_low moved_ [] h = omega (arith, h)
mark_low moved_ (x ∷ l) h = omega (arith, h)

-- it takes the first message of its link
pub down_takes : (run acts : List Act) (quota : ℕ) (q p : FinMap nat_cmp (List ℕ)) (k : ℕ) (e d : End) (letter : Letter) (rest : List Letter) (ahead next : ℕ) → DownTie run quota q k e ahead → HasMarks e → e.down ≡ letter ∷ rest
    → deliveries (run ++ acts) ≡ deliveries run → d.who ≡ e.who → d.down ≡ rest → d.down_moved ≡ 0 → length (queue_of p k) ≡ length (queue_of q k) - (size letter.said.message - e.down_moved)
    → ahead + moved acts e.who false ≡ (size letter.said.message - e.down_moved) + next → DownTie (run ++ acts) quota p k d next
down_takes run acts quota q p k e d letter rest ahead next t m link handed who down mark queues more =
    let same : to_one d.who (deliveries (run ++ acts)) ≡ to_one e.who (deliveries run) = ap₂ to_one who handed in
    let far : moved (run ++ acts) d.who false ≡ moved run e.who false + moved acts e.who false = ap (λ x. moved (run ++ acts) x false) who ∙ moved_more run acts e.who false in
    let one : sizes (t.taken ++ pair letter ∷ []) ≡ sizes t.taken + (size letter.said.message + 0) = sizes_more t.taken (pair letter ∷ []) in
    let within : e.down_moved < size letter.said.message = subst (DownMark e.down_moved) link m.down in
    let bytes : letter_bytes e.down ≡ (size letter.said.message - 0) + letter_bytes rest = ap letter_bytes link in
    record {
      fits = subst (AllFit quota []) (sym same) t.fits;
      taken = t.taken ++ pair letter ∷ [];
      whole = ap letters same ∙ t.whole ∙ ap (λ l. t.taken ++ map pair l) link ∙ sym (append_assoc t.taken (pair letter ∷ []) (map pair rest)) ∙ ap (λ l. (t.taken ++ pair letter ∷ []) ++ map pair l) (sym down);
      count = sum (moved (run ++ acts) d.who false) (moved run e.who false) (moved acts e.who false) (sizes t.taken) e.down_moved d.down_moved (size letter.said.message) (sizes (t.taken ++ pair letter ∷ [])) far t.count mark more one within;
      queue = left (length (queue_of p k)) (length (queue_of q k)) (letter_bytes e.down) e.down_moved (size letter.said.message) (letter_bytes rest) queues t.queue bytes within ∙ ap₂ (λ l n. letter_bytes l - n) (sym down) (sym mark);
    }
  where
    sum : (x y z s m n b t : ℕ) → x ≡ y + z → y ≡ (s + m) + ahead → n ≡ 0 → ahead + z ≡ (b - m) + next → t ≡ s + (b + 0) → m < b → x ≡ (t + n) + next
    sum x y z s m n b t h g i f j l = omega (arith, h, g, i, f, j, l)

    left : (x y a m b r : ℕ) → x ≡ y - (b - m) → y ≡ a - m → a ≡ (b - 0) + r → m < b → x ≡ r - 0
    left x y a m b r h g i l = omega (arith, h, g, i, l)

-- some bytes of its link are moved that complete no message
pub down_moves : (run : List Act) (quota : ℕ) (q p : FinMap nat_cmp (List ℕ)) (k count : ℕ) (e d : End) → DownTie run quota q k e count → d.who ≡ e.who → d.down ≡ e.down → d.down_moved ≡ e.down_moved + count
    → length (queue_of p k) ≡ length (queue_of q k) - count → DownTie run quota p k d 0
down_moves run quota q p k count e d t who down mark queues = record {
  fits = subst (λ x. AllFit quota [] (to_one x (deliveries run))) (sym who) t.fits;
  taken = t.taken;
  whole = ap (λ x. letters (to_one x (deliveries run))) who ∙ t.whole ∙ ap (λ l. t.taken ++ map pair l) (sym down);
  count = ap (λ x. moved run x false) who ∙ sum (moved run e.who false) (sizes t.taken) e.down_moved d.down_moved t.count mark;
  queue = less (length (queue_of p k)) (length (queue_of q k)) (letter_bytes e.down) e.down_moved d.down_moved queues t.queue mark ∙ ap (λ l. letter_bytes l - d.down_moved) (sym down);
}
  where
    sum : (y s m n : ℕ) → y ≡ (s + m) + count → n ≡ m + count → y ≡ (s + n) + 0
    sum y s m n h g = omega (arith, h, g)

    less : (x y a m n : ℕ) → x ≡ y - count → y ≡ a - m → n ≡ m + count → x ≡ a - n
    less x y a m n h g i = omega (arith, h, g, i)

-- the bus hands it more
pub down_gains : (run acts : List Act) (quota : ℕ) (q p : FinMap nat_cmp (List ℕ)) (k : ℕ) (e d : End) (ds : List Delivery) (ls : List Letter) → DownTie run quota q k e 0 → HasMarks e → deliveries (run ++ acts) ≡ deliveries run ++ ds
    → letters (to_one e.who ds) ≡ map pair ls → AllByRecursion (Marked (moved run e.who false)) (to_one e.who ds) → Gains e d ls → length (queue_of p k) ≡ length (queue_of q k) + total ls → LetIn quota (length (queue_of q k)) ls
    → moved acts e.who false ≡ 0 → DownTie (run ++ acts) quota p k d 0
down_gains run acts quota q p k e d ds ls t m handed letters_ marks_ g queues fits none =
    let mine : List Delivery = to_one e.who (deliveries run) in
    let same : to_one d.who (deliveries (run ++ acts)) ≡ mine ++ to_one e.who ds = ap₂ to_one g.whose handed ∙ to_more e.who (deliveries run) ds in
    let all : sizes (letters mine) ≡ sizes t.taken + letter_bytes e.down = ap sizes t.whole ∙ sizes_more t.taken (downs e) ∙ ap (λ n. sizes t.taken + n) (downs_sized e.down) in
    let low : e.down_moved ≤ letter_bytes e.down = mark_low e.down_moved e.down m.down in
    let far : moved (run ++ acts) d.who false ≡ moved run e.who false + moved acts e.who false = ap (λ x. moved (run ++ acts) x false) g.whose ∙ moved_more run acts e.who false in
    record {
      fits = subst (AllFit quota []) (sym same)
          (fit_more quota [] mine (to_one e.who ds) t.fits
          (fits_on quota (moved run e.who false) (length (queue_of q k)) mine (to_one e.who ds) ls letters_ marks_
          (below (moved run e.who false) (sizes (letters mine)) (sizes t.taken) e.down_moved (letter_bytes e.down) t.count all low)
          (room (moved run e.who false) (sizes (letters mine)) (sizes t.taken) e.down_moved (letter_bytes e.down) (length (queue_of q k)) t.count all low t.queue) fits));
      taken = t.taken;
      whole = ap letters same ∙ letters_more mine (to_one e.who ds) ∙ ap₂ (λ x y. x ++ y) t.whole letters_ ∙ append_assoc t.taken (downs e) (map pair ls)
          ∙ ap (λ l. t.taken ++ l) (sym (map_more e.down ls)) ∙ ap (λ l. t.taken ++ map pair l) (sym g.down);
      count = sum (moved (run ++ acts) d.who false) (moved run e.who false) (moved acts e.who false) (sizes t.taken) e.down_moved d.down_moved far t.count g.mark none;
      queue = more (length (queue_of p k)) (length (queue_of q k)) (total ls) (letter_bytes e.down) e.down_moved d.down_moved (letter_bytes (e.down ++ ls)) queues t.queue g.mark (letter_more e.down ls) low ∙ ap (λ l. letter_bytes l - d.down_moved) (sym g.down);
    }
  where
    below : (y a s m b : ℕ) → y ≡ (s + m) + 0 → a ≡ s + b → m ≤ b → y ≤ a
    below y a s m b h g i = omega (arith, h, g, i)

    room : (y a s m b n : ℕ) → y ≡ (s + m) + 0 → a ≡ s + b → m ≤ b → n ≡ b - m → n ≡ a - y
    room y a s m b n h g i j = omega (arith, h, g, i, j)

    map_more : (xs ys : List Letter) → map pair (xs ++ ys) ≡ map pair xs ++ map pair ys
    map_more [] ys = refl
    map_more (x ∷ xs) ys = ap (λ l. pair x ∷ l) (map_more xs ys)

    sum : (x y z s m n : ℕ) → x ≡ y + z → y ≡ (s + m) + 0 → n ≡ m → z ≡ 0 → x ≡ (s + n) + 0
    sum x y z s m n h g i f = omega (arith, h, g, i, f)

    more : (x y t b m n c : ℕ) → x ≡ y + t → y ≡ b - m → n ≡ m → c ≡ b + t → m ≤ b → x ≡ c - n
    more x y t b m n c h g i j l = omega (arith, h, g, i, j, l)
