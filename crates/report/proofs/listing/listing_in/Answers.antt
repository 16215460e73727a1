-- `report::listing::listing_in` meets its contract: the refusal, or the list of the board. Assumes nothing.
use mathlib.Core.Path.{◌∙◌}
use Rattle.report.proofs.Listed.{listing-refused, read-good, listing-read}
use Rattle.report.proofs.listing.listing_in.Goals as goal

pub board_listing-requires : goal.board_listing-requires
board_listing-requires c = read-good c.args.text.now c.read_board.ensures c.in-Ok.is

pub returns-in-Ok : goal.returns-in-Ok
returns-in-Ok c = c.board_listing.ensures ∙ listing-read c.args.text.now c.read_board.ensures c.in-Ok.is

pub returns-in-Err : goal.returns-in-Err
returns-in-Err c = c.refused_listing.ensures ∙ listing-refused c.args.text.now c.read_board.ensures c.in-Err.is
