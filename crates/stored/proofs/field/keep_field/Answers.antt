-- `stored::field::keep_field` meets its contract: its front, then the value, one behind the other. Assumes nothing.
use Rattle.stored.proofs.Fields.{field_kept}
use Rattle.stored.proofs.field.keep_field.Goals as goal

pub returns : goal.returns
returns g c = field_kept c.args.tag c.args.value.now g.row.N c.args.list.now c.requires.1 c.keep.ensures c.keep-2.ensures
