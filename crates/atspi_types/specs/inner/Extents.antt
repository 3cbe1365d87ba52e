-- How far types reach, counted as far as the limits of a signature need.
use Rattle.std.specs.Prelude.{◌≡◌, min, length}
use Rattle.atspi_types.specs.Kinds.{Kind, Kinds}
use Rattle.atspi_types.specs.Signatures.{type_bytes, signature_bytes, array_depth, array_depths, struct_depth}
use Rattle.atspi_types.specs.Signatures.{struct_depths}
use Rattle.atspi_types.specs.declared.ty.spelling.Extent.{Extent}

pub record IsExtentOf (e : Extent) (k : Kind) : Type 0 where
  pub bytes : e.bytes ≡ min (length (type_bytes k)) 256
  pub arrays : e.arrays ≡ min (array_depth k) 33
  pub structs : e.structs ≡ min (struct_depth k) 33

pub record IsExtent (e : Extent) (ks : Kinds) : Type 0 where
  pub bytes : e.bytes ≡ min (length (signature_bytes ks)) 256
  pub arrays : e.arrays ≡ min (array_depths ks) 33
  pub structs : e.structs ≡ min (struct_depths ks) 33
