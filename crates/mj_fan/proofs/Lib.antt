-- InPlaceLaws: lists that are changed place by place.
--   InPlaceTo       changed below k, and from there on as it was
--   mapped, joined      what is read off the items, as a list
pub mod InPlaceLaws
