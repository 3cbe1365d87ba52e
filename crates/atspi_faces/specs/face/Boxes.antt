-- Which box a face lies in.
use Rattle.std.specs.Prelude.{ℕ}
use denote.RawPtr.{block_of}
use Rattle.std.specs.declared.dyn_box.DynBox.{DynBox}

-- the number of a box: that of the memory in which its face lies, which the box has for as long as it is there
abbrev pub box_number : {X Z : Type 0} {F : X → Type 0} → DynBox X Z F → ℕ
box_number b = block_of b.ptr
