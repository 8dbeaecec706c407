-- What a call decides.
mod CallLaws
-- The slices of a new gate's list.
mod OpenLaws
