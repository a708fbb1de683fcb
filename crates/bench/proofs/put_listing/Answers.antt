-- Each way a script is read, and its listing. Assumes nothing.
use Rattle.std.proofs.Common.{sym, ◌∙◌}
use Rattle.tally.specs.Limits.{today}
use Rattle.script.proofs.HeaderLines.{header_range}
use Rattle.bench.proofs.Whole.{listing_long, listing_none, listing_bad, listing_read}
use Rattle.bench.proofs.put_listing.Goals as goal

pub returns-then-script-gt-SCRIPT_SIZE : goal.returns-then-script-gt-SCRIPT_SIZE
returns-then-script-gt-SCRIPT_SIZE c = rw (listing_long today c.args.script.now c.if-script-gt-SCRIPT_SIZE.true) c.put_malformed.ensures

pub returns-in_default : goal.returns-in_default
returns-in_default c =
    rw (listing_none today c.args.script.now c.if-script-gt-SCRIPT_SIZE.false c.in_default.ensures.parts) c.put_malformed-in_default.ensures

pub returns-in_default-header : goal.returns-in_default-header
returns-in_default-header c =
    let bad = sym c.in_default-header.is ∙ c.header.ensures in
    rw (listing_bad today c.args.script.now c.if-script-gt-SCRIPT_SIZE.false c.in-Some.line.now c.in-Some.rest.now c.in-Some.ensures.parts bad)
    c.put_malformed-in_default-header.ensures

pub put_played-requires-clause-h_value : goal.put_played-requires-clause-h_value
put_played-requires-clause-h_value c = header_range _ _ (sym c.header.ensures ∙ c.in-Some-header.is)

pub returns : goal.returns
returns c =
    let is = sym c.in-Some-header.is ∙ c.header.ensures in
    rw (listing_read today c.args.script.now c.if-script-gt-SCRIPT_SIZE.false c.in-Some.line.now c.in-Some.rest.now c.in-Some.ensures.parts _ is)
    c.put_played.ensures
