mod Documents
