-- What a shelf over the files of a folder shows: nothing of their contents.
use Rattle.std.specs.Prelude.{None}
use Rattle.shelf.specs.Storage.{Storage}
use Rattle.shelf.specs.declared.folder.DirShelf.{DirShelf}

abbrev pub dir_storage : {R F D : Type 0} → DirShelf R F D → Storage
dir_storage s = record { files = None; touched = s.touched; counts = s.counts }
