-- What `hit` does, by its status.
use Rattle.std.specs.Prelude.{◌≡◌, ◌⊎◌, ℕ, suc, ◌≤◌, List, [], ◌∷◌, ◌++◌, length, Option, Some, None, IsUtf8}
use Rattle.std.specs.Io.KnownBytes.{IsAtEnd, Appends}
use Rattle.atspi_base.specs.Outside.{AppendsPart}
use Rattle.atspi_script_lines.specs.declared.limits.TheConstants.{LINE_LIMIT}
use Rattle.atspi_run_input.specs.Reading.{OfAll, OfFront, OfLimit, OfReading}
use Rattle.atspi_run_hit.specs.declared.line.HitLine.{HitLine}
use Rattle.atspi_run_hit.specs.declared.naming.Refused.{Refused}
use Rattle.atspi_run_hit.specs.declared.naming.Refused.TheVariants.{Long, NotUtf8, Form, Asked}
use Rattle.atspi_run_hit.specs.Words.{SpellsLine}
use Rattle.atspi_run_hit.specs.Scene.{Scene, refusal, after}
use Rattle.atspi_run_hit.specs.Told.{Tells}
use Rattle.atspi_run_hit.specs.Names.{refused_text}

-- A LINE IS DONE: what was made before, its bytes, what is made then, and what it writes
pub record LineDone (old : Option Scene) (bytes : List ℕ) (new : Option Scene) (told : List ℕ) : Type 0 where
  pub line : HitLine
  pub spelled : SpellsLine line bytes
  pub accepted : refusal old line ≡ None
  pub made : new ≡ after old line
  pub tells : Tells old line told

-- lines are done one after another, and write this text
abbrev pub LinesDone : Option Scene → List (List ℕ) → Option Scene → List ℕ → Type 0
LinesDone old [] new text = (new ≡ old) × (text ≡ [])
LinesDone old (bytes ∷ more) new text = (next : Option Scene) × (told : List ℕ) × (rest : List ℕ)
    × LineDone old bytes next told × LinesDone next more new rest × (text ≡ told ++ rest)

-- A LINE IS REFUSED, for the first reason that holds: it is too long; no UTF-8; spells no line, or one that may not
-- stand there; asks for what cannot be done
abbrev pub IsRefused : Option Scene → List ℕ → Refused → Type 0
IsRefused s bytes Long = length bytes ≤ LINE_LIMIT → ⊥
IsRefused s bytes NotUtf8 = (length bytes ≤ LINE_LIMIT) × (IsUtf8 bytes → ⊥)
IsRefused s bytes Form =
    ((length bytes ≤ LINE_LIMIT) × IsUtf8 bytes × ((line : HitLine) → SpellsLine line bytes → ⊥))
    ⊎ ((line : HitLine) × SpellsLine line bytes × (refusal s line ≡ Some Form))
IsRefused s bytes (Asked why) = (line : HitLine) × SpellsLine line bytes × (refusal s line ≡ Some (Asked why))

-- THE TEXT OF LINES THAT ARE ALL DONE, from nothing
abbrev pub IsText : List (List ℕ) → List ℕ → Type 0
IsText lines text = (now : Option Scene) × LinesDone None lines now text

-- that of the lines before the first that is refused, and its refusal
pub record RefusedText (lines : List (List ℕ)) (text : List ℕ) : Type 0 where
  pub done : List (List ℕ)
  pub line : List ℕ
  pub rest : List (List ℕ)
  pub front : lines ≡ done ++ line ∷ rest
  pub now : Option Scene
  pub told : List ℕ
  pub does : LinesDone None done now told
  pub why : Refused
  pub refused : IsRefused now line why
  pub are : text ≡ told ++ refused_text (suc (length done)) why

-- that of the first of the lines
pub record FrontText (lines : List (List ℕ)) (text : List ℕ) : Type 0 where
  pub done : List (List ℕ)
  pub rest : List (List ℕ)
  pub front : lines ≡ done ++ rest
  pub is : IsText done text

-- such a text was written, or a part of it
abbrev pub Wrote : List (List ℕ) → Option (List ℕ) → Option (List ℕ) → Type 0
Wrote lines old new = (text : List ℕ) × IsText lines text × Appends old new text

abbrev pub WroteRefused : List (List ℕ) → Option (List ℕ) → Option (List ℕ) → Type 0
WroteRefused lines old new = (text : List ℕ) × RefusedText lines text × Appends old new text

abbrev pub WrotePart : List (List ℕ) → Option (List ℕ) → Option (List ℕ) → Type 0
WrotePart lines old new = (text : List ℕ) × (FrontText lines text ⊎ RefusedText lines text) × AppendsPart old new text

-- the statuses of `hit`
abbrev pub IsHitStatus : ℕ → Type 0
IsHitStatus status = (status ≡ 0) ⊎ ((status ≡ 1) ⊎ ((status ≡ 3) ⊎ ((status ≡ 4) ⊎ ((status ≡ 5) ⊎ (status ≡ 8)))))

-- WHAT `hit` DOES, by its status. The source had `left` and has `left'` now, and `w` was written before and `w'` is
-- now. 0: the source was read to its end, and all its lines were done. 1: a line of what was read is refused, and those
-- before it were done. 3: the whole lines of what was taken of the source were done. 8: those inside the limit. 4 and
-- 5: a front of what some lines write was written. What was read is inside the limit, with any status.
pub record HitDone (limit status : ℕ) (left left' w w' : Option (List ℕ)) : Type 0 where
  pub known : IsHitStatus status
  pub ended : status ≡ 0 → IsAtEnd left'
  pub done : status ≡ 0 → OfAll limit left (λ lines. Wrote lines w w')
  pub refused : status ≡ 1 → OfReading limit left (λ lines. WroteRefused lines w w')
  pub read : status ≡ 3 → OfFront limit left left' (λ lines. Wrote lines w w')
  pub past : status ≡ 8 → OfLimit limit left (λ lines. Wrote lines w w')
  pub write : status ≡ 4 → OfReading limit left (λ lines. WrotePart lines w w')
  pub memory : status ≡ 5 → OfReading limit left (λ lines. WrotePart lines w w')
