use Rattle.q_blocked.proofs.search.Search.covers.Goals as goal

pub returns-clause-right : goal.returns-clause-right
returns-clause-right c = record { units = c.fits_cover-yes.ensures.units; watches = c.fits_cover-yes.ensures.watches; apart = c.fits_cover-yes.ensures.apart }
