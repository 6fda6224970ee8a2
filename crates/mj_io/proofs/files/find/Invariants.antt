use Rattle.std.proofs.Common.{◌≡◌, drop}
use Rattle.mj_io.specs.Shelf.{first_named, texts_of}
use Rattle.mj_io.proofs.files.find.Given as goal

-- none of the files so far has the name
abbrev pub invariant-loop-file : goal.invariant-loop-file
invariant-loop-file l = first_named l.name (texts_of l.files) ≡ first_named l.name (texts_of (drop l.file-index l.files))
