-- The contents of a book: the family that it holds.
use Rattle.std.specs.Prelude.{vec_items}
use Rattle.families.specs.Families.{Family}
use Rattle.book.specs.declared.contents.Contents.{Contents}
use Rattle.book.specs.declared.books.OpenBook.{OpenBook}
use Rattle.book.specs.declared.books.ClosedBook.{ClosedBook}

abbrev pub family : Contents → Family
family c =
    record { states = c.states; products = vec_items c.products; transitions = vec_items c.transitions }

abbrev pub contents : OpenBook → Family
contents b = family b.contents

abbrev pub closed_contents : ClosedBook → Family
closed_contents b = family b.contents
